-- The regions that lines make, line after line.
use Rattle.std.proofs.Common.{◌≡◌, ◌<◌, ◌+◌, ℕ, suc, Bool, true, false, cond, List, ◌∷◌, ◌++◌, length, drop, get_or, add-one, sym, ap, ◌∙◌, append_assoc}
use Rattle.std.proofs.Math.Seq.{drop-cons}
use Rattle.mem_base.specs.declared.map.ids.RegionId.{RegionId}
use Rattle.mem_base.specs.script.Scripts.{Line}
use Rattle.script_map.specs.Refusals.{Refused}
use Rattle.script_memory.specs.Regions.{device_by, makes_region, memory_from}

-- a line that makes a region, and one that makes none
pub makes_one : (commented : List Bool) (refused : List Refused) (n next : ℕ) (line : Line) (lines : List Line) (old new : List RegionId)
    → makes_region refused line ≡ true → next ≡ n + 1 → new ≡ old ++ device_by commented n line
    → new ++ memory_from commented refused next lines ≡ old ++ memory_from commented refused n (line ∷ lines)
makes_one commented refused n next line lines old new m e is =
    let rest : List RegionId = memory_from commented refused (n + 1) lines in
    (λ i. is i ++ memory_from commented refused (e i) lines) ∙ append_assoc old (device_by commented n line) rest
    ∙ ap (λ b. old ++ cond b (device_by commented n line ++ rest) (memory_from commented refused n lines)) (sym m)

pub makes_none : (commented : List Bool) (refused : List Refused) (n : ℕ) (line : Line) (lines : List Line) (old : List RegionId)
    → makes_region refused line ≡ false → old ++ memory_from commented refused n lines ≡ old ++ memory_from commented refused n (line ∷ lines)
makes_none commented refused n line lines old m =
    ap (λ b. old ++ cond b (device_by commented n line ++ memory_from commented refused (n + 1) lines) (memory_from commented refused n lines)) (sym m)

-- the next of some lines
pub line_next : (commented : List Bool) (refused : List Refused) (lines : List Line) (i : ℕ) (line : Line) (n next : ℕ) (old new whole : List RegionId)
    → i < length lines → line ≡ get_or lines i line
    → new ++ memory_from commented refused next (drop (i + 1) lines) ≡ old ++ memory_from commented refused n (line ∷ drop (i + 1) lines)
    → old ++ memory_from commented refused n (drop i lines) ≡ whole
    → new ++ memory_from commented refused next (drop (i + 1) lines) ≡ whole
line_next commented refused lines i line n next old new whole l is step h =
    let cut : drop i lines ≡ line ∷ drop (i + 1) lines =
    drop-cons lines i line l ∙ ap (λ x. x ∷ drop (suc i) lines) (sym is) ∙ ap (λ k. line ∷ drop k lines) (sym (add-one i)) in
    step ∙ ap (λ ls. old ++ memory_from commented refused n ls) (sym cut) ∙ h
