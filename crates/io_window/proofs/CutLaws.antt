-- An access is cut where its first chunk ends.
use Rattle.std.proofs.Common.{◌≡◌, ℕ, zero, suc, ◌+◌, ◌-◌, ◌<◌, ◌≤◌, Bool, true, false, List, [], ◌∷◌, ◌++◌, length, take, drop}
use Rattle.std.proofs.Common.{refl, sym, ap, ◌∙◌, arith, append-nil}
use Rattle.std.specs.Prelude.{flat_map}
use Rattle.std.proofs.lemmas.List.{drop-drop, length-drop, length-take-le, take-take}
use Rattle.mem_base.specs.declared.map.ids.SpaceId.{SpaceId}
use Rattle.mem_base.specs.declared.map.forests.Forest.{Forest}
use Rattle.mem_base.specs.declared.access.accesses.Target.{Target}
use Rattle.mem_base.specs.lists.Every.{Every}
use Rattle.mem_base.specs.lists.Runs.{Run, run, runs, put_before}
use Rattle.mem_base.specs.access.Trails.{trail_of, shares_next}
use Rattle.mem_base.specs.access.AccessSteps.{reading, writing, AccessStep}
use Rattle.mem_base.specs.access.Access.{at_target, in_chunk, access}
use Rattle.access_base.proofs.ChunkLaws.{FirstRun, first_given}
use Rattle.mem_base.specs.access.Windows.{window_start, chunk_length}
use Rattle.io_window.proofs.ChunkLaws.{one_chunk}

-- runs begin at their first number or after it
starts_from : (share : ℕ → Bool) (a n : ℕ) → Every (λ r. a ≤ r.start) (runs share a n)
starts_from share a zero = tt
starts_from share a (suc n) = put (share a) (runs share (a + 1) n) (starts_from share (a + 1) n)
  where
    later : (rs : List Run) → Every (λ r. a + 1 ≤ r.start) rs → Every (λ r. a ≤ r.start) rs
    later [] h = tt
    later (r ∷ rs) h = let l : a + 1 ≤ r.start = h.0 in (omega (arith, l), later rs h.1)

    put : (b : Bool) (rs : List Run) → Every (λ r. a + 1 ≤ r.start) rs → Every (λ r. a ≤ r.start) (put_before b a rs)
    put true [] h = (omega arith, tt)
    put true (r ∷ rs) h = (omega arith, later rs h.1)
    put false rs h = (omega arith, later rs h)

same_chunks : (F G : Run → List AccessStep) (a : ℕ) → ((r : Run) → a ≤ r.start → F r ≡ G r) → (rs : List Run) → Every (λ r. a ≤ r.start) rs
    → flat_map F rs ≡ flat_map G rs
same_chunks F G a same [] h = refl
same_chunks F G a same (r ∷ rs) h = (λ i. same r h.0 i ++ same_chunks F G a same rs h.1 i)

pub read_cut : (f : Forest) (space : SpaceId) (addr n c : ℕ) → 0 < n → c ≡ chunk_length f (window_start space addr false) n
    → access f space addr (reading n) ≡ access f space addr (reading c) ++ access f space (addr + c) (reading (n - c))
read_cut f space addr n c some is =
    let share : ℕ → Bool = shares_next f false space in
    let F : Run → List AccessStep = in_chunk f space addr (reading n) in
    let t : FirstRun share addr n c = first_given share addr n c some is in
    ap (flat_map F) t.is
    ∙ ap (λ (ds : List AccessStep). ds ++ flat_map F (runs share (addr + c) (n - c)))
    (sym (append-nil (F (run addr c))) ∙ sym (ap (flat_map F) (one_chunk share addr n c is t.some)))

pub write_cut : (f : Forest) (space : SpaceId) (addr c : ℕ) (bytes : List ℕ) → 0 < length bytes
    → c ≡ chunk_length f (window_start space addr true) (length bytes)
    → access f space addr (writing bytes) ≡ access f space addr (writing (take c bytes)) ++ access f space (addr + c) (writing (drop c bytes))
write_cut f space addr c bytes some is =
    let n : ℕ = length bytes in
    let share : ℕ → Bool = shares_next f true space in
    let x : Target = (trail_of f true space addr).target in
    let F : Run → List AccessStep = in_chunk f space addr (writing bytes) in
    let G : Run → List AccessStep = in_chunk f space addr (writing (take c bytes)) in
    let H : Run → List AccessStep = in_chunk f space (addr + c) (writing (drop c bytes)) in
    let t : FirstRun share addr n c = first_given share addr n c some is in
    let most : c ≤ n = t.most in
    let none : addr - addr ≡ 0 = omega arith in
    let first : F (run addr c) ≡ G (run addr c) =
    ap (λ (l : List ℕ). at_target f x (writing l))
    (ap (λ (k : ℕ). take c (drop k bytes)) none ∙ sym (take-take c c bytes (omega arith)) ∙ sym (ap (λ (k : ℕ). take c (drop k (take c bytes))) none)) in
    let size : length (take c bytes) ≡ c = length-take-le c bytes most in
    let left : length (drop c bytes) ≡ n - c = length-drop c bytes in
    let rest : flat_map F (runs share (addr + c) (n - c)) ≡ flat_map H (runs share (addr + c) (n - c)) =
    same_chunks F H (addr + c) (later f space addr c bytes) (runs share (addr + c) (n - c)) (starts_from share (addr + c) (n - c)) in
    ap (flat_map F) t.is
    ∙ (λ i. first i ++ rest i)
    ∙ ap (λ (ds : List AccessStep). ds ++ flat_map H (runs share (addr + c) (n - c)))
    (sym (append-nil (G (run addr c))) ∙ sym (ap (flat_map G) (one_chunk share addr n c is t.some)))
    ∙ (λ i. flat_map G (runs share addr (sym size i)) ++ flat_map H (runs share (addr + c) (sym left i)))
  where
    later : (f : Forest) (space : SpaceId) (addr c : ℕ) (bytes : List ℕ) (r : Run) → addr + c ≤ r.start
        → in_chunk f space addr (writing bytes) r ≡ in_chunk f space (addr + c) (writing (drop c bytes)) r
    later f space addr c bytes r l =
        let at : r.start - addr ≡ c + (r.start - (addr + c)) = omega (arith, l) in
        ap (λ (bs : List ℕ). at_target f (trail_of f true space r.start).target (writing (take r.length bs)))
        (ap (λ (k : ℕ). drop k bytes) at ∙ sym (drop-drop (r.start - (addr + c)) c bytes))
