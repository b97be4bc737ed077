-- A write window that is put whole is the defined write.
use Rattle.std.proofs.Common.{◌≡◌, ℕ, ◌+◌, ◌<◌, ◌||◌, ◌==◌, Bool, true, false, List, [], ◌++◌, length, take, drop, Option, Some, None}
use Rattle.std.proofs.Common.{refl, sym, ap, subst, ◌∙◌, if◌then◌else◌, arith, option_map}
use Rattle.std.specs.Prelude.{is_some, MatchBool}
use Rattle.std.proofs.lemmas.List.{take_at}
use Rattle.std.proofs.lemmas.Bool.{eqb-true}
use Rattle.mem_base.specs.declared.map.ids.SpaceId.{SpaceId}
use Rattle.mem_base.specs.declared.map.forests.Forest.{Forest}
use Rattle.mem_base.specs.declared.access.accesses.TxResult.{TxResult}
use Rattle.mem_base.specs.access.AccessSteps.{writing, AccessStep, result_of}
use Rattle.mem_base.specs.access.Access.{access}
use Rattle.generation.specs.Published.{Published}
use Rattle.epoch_rule.specs.Values.{PassValue}
use Rattle.vcpu_pass.specs.Steps.{generation_in}
use Rattle.vcpu_pass.specs.Around.{HasEnded}
use Rattle.vcpu_pass.specs.Calls.{is_entered, HasAccessed}
use Rattle.mem_base.specs.declared.access.accesses.WindowStart.{WindowStart}
use Rattle.mem_base.specs.access.Windows.{window_start, target_at, chunk_length, part_steps, mark_steps, opening_steps, flush_steps, closing_steps, closing_result}
use Rattle.io_window.specs.Windows.{WindowValue, forest_of, number_of, held_in}
use Rattle.io_window.specs.Calls.{Does, IsOpened, HasOpened, HasPut, HasClosed, with_put, put_in}
use Rattle.io_window.specs.Whole.{access_answer, HasRun}
use Rattle.io_window.proofs.ChunkLaws.{written_is, written_fine}
use Rattle.io_window.proofs.WholeLaws.{does_then, same_generation, around_access, direct_length, IsWhole, within_entry}

not_zero : (n : ℕ) → 0 < n → (n == 0) ≡ false
not_zero n some = go (n == 0) refl
  where
    go : (b : Bool) → (n == 0) ≡ b → b ≡ false
    go true e = let none : n ≡ 0 = eqb-true n 0 e in absurd (omega (arith, some, none))
    go false e = refl

-- what a bounce holds that was put whole
put_whole : (buffer after : Option (List ℕ)) (bytes : List ℕ) (n : ℕ) → is_some buffer ≡ true → after ≡ option_map (put_in 0 bytes) buffer → length bytes ≡ n
    → take n (held_in after) ≡ bytes
put_whole None after bytes n is e size = cc
put_whole (Some held) after bytes n is e size = ap (λ (o : Option (List ℕ)). take n (held_in o)) e ∙ take_at bytes (drop (0 + length bytes) held) n size

module _ (v y : PassValue Published) (space : SpaceId) (addr asked : ℕ) (handed given : Option ℕ) (w u : WindowValue) (bytes : List ℕ)
    (result : TxResult) (o : HasOpened v (window_start space addr true) asked handed w) (size : length bytes ≡ w.len) (g : HasPut w 0 bytes u)
    (k : HasClosed u w.len y given result) where
  abbrev s : WindowStart
  s = window_start space addr true

  abbrev f : Forest
  f = forest_of w

  p : IsOpened o.looked (is_entered v) s asked handed w
  p = o.opened

  closed : HasClosed (with_put w u.pass (0 + length bytes) u.buffer) w.len y given result
  closed = subst (λ (z : WindowValue). HasClosed z w.len y given result) g.0 k

  here : f ≡ (generation_in o.looked).forest
  here = ap (λ (x : Published). x.forest) (same_generation o.looked w.pass _ _ p.filled)

  abbrev all_steps : List AccessStep
  all_steps = part_steps (target_at f s) 0 (writing bytes) ++ mark_steps (target_at f s) (length bytes)

  written_directly : w.direct ≡ true → IsWhole o.looked f space addr (writing bytes) [] closed.last result (number_of w) (generation_in u.pass).number
  written_directly e =
      let opened : Does o.looked [] [] w.pass =
      subst (λ (b : Bool). Does o.looked (opening_steps f s b w.len) (if b || true then [] else take w.len (held_in w.buffer)) w.pass) e p.filled in
      let got : (u.buffer ≡ w.buffer) × Does w.pass (part_steps (target_at f w.start) 0 (writing bytes)) [] u.pass =
      subst (λ (b : Bool). MatchBool b ((u.buffer ≡ w.buffer) × Does w.pass (part_steps (target_at f w.start) 0 (writing bytes)) [] u.pass)
      ((u.pass ≡ w.pass) × (u.buffer ≡ option_map (put_in 0 bytes) w.buffer))) e g.2 in
      let put : Does w.pass (part_steps (target_at f s) 0 (writing bytes)) [] u.pass =
      subst (λ (z : WindowStart). Does w.pass (part_steps (target_at f z) 0 (writing bytes)) [] u.pass) p.start got.1 in
      let stays = same_generation w.pass u.pass (part_steps (target_at f s) 0 (writing bytes)) [] put in
      let marks : closing_steps (generation_in u.pass).forest w.start w.direct w.len (held_in u.buffer) ≡ mark_steps (target_at f s) (length bytes) =
      (λ i. closing_steps (stays i).forest (p.start i) (e i) (sym size i) (held_in u.buffer)) in
      let marked : Does u.pass (mark_steps (target_at f s) (length bytes)) [] closed.last =
      subst (λ (ds : List AccessStep). Does u.pass ds [] closed.last) marks closed.closing in
      let long : w.len ≡ chunk_length f s asked = direct_length f s asked (length (held_in w.buffer)) w.len w.direct p.direct e p.len in
      let list : access f space addr (writing bytes) ≡ all_steps =
      written_is f space addr asked bytes (sym p.direct ∙ e) (size ∙ long) (subst (λ (n : ℕ). 0 < n) (sym size) p.some) in
      let done : Does o.looked (access f space addr (writing bytes)) [] closed.last =
      subst (λ (ds : List AccessStep). Does o.looked ds [] closed.last) (sym list)
      (does_then o.looked w.pass closed.last [] all_steps [] [] opened
      (does_then w.pass u.pass closed.last (part_steps (target_at f s) 0 (writing bytes)) (mark_steps (target_at f s) (length bytes)) [] [] put marked)) in
      let fine : result ≡ result_of (access f space addr (writing bytes)) =
      closed.result ∙ ap (λ (b : Bool). closing_result (generation_in u.pass).forest w.start b w.filling w.len (held_in u.buffer)) e
      ∙ written_fine (target_at f s) bytes ∙ ap (λ (ds : List AccessStep). result_of ds) (sym list) in
      let number : (generation_in u.pass).number ≡ number_of w = ap (λ (x : Published). x.number) stays in
      record { done = done; ends = fine; number = number }

  written_by_bounce : w.direct ≡ false → IsWhole o.looked f space addr (writing bytes) [] closed.last result (number_of w) (generation_in u.pass).number
  written_by_bounce e =
      let opened : Does o.looked [] [] w.pass =
      subst (λ (b : Bool). Does o.looked (opening_steps f s b w.len) (if b || true then [] else take w.len (held_in w.buffer)) w.pass) e p.filled in
      let got : (u.pass ≡ w.pass) × (u.buffer ≡ option_map (put_in 0 bytes) w.buffer) =
      subst (λ (b : Bool). MatchBool b ((u.buffer ≡ w.buffer) × Does w.pass (part_steps (target_at f w.start) 0 (writing bytes)) [] u.pass)
      ((u.pass ≡ w.pass) × (u.buffer ≡ option_map (put_in 0 bytes) w.buffer))) e g.2 in
      let there : is_some w.buffer ≡ true = ap (λ (b : Bool). b || is_some w.buffer) (sym e) ∙ p.bounced in
      let held : take w.len (held_in u.buffer) ≡ bytes = put_whole w.buffer u.buffer bytes w.len there got.1 size in
      let flushed : flush_steps (generation_in u.pass).forest s w.len (held_in u.buffer) ≡ access f space addr (writing bytes) =
      (λ i. if not_zero w.len p.some i then []
      else access (generation_in (got.0 i)).forest space addr (writing (take w.len (held_in u.buffer))))
      ∙ ap (λ (bs : List ℕ). access f space addr (writing bs)) held in
      let list : closing_steps (generation_in u.pass).forest w.start w.direct w.len (held_in u.buffer) ≡ access f space addr (writing bytes) =
      (λ i. closing_steps (generation_in u.pass).forest (p.start i) (e i) w.len (held_in u.buffer)) ∙ flushed in
      let wrote : Does w.pass (access f space addr (writing bytes)) [] closed.last =
      subst (λ (q : PassValue Published × List AccessStep). Does q.0 q.1 [] closed.last) (λ i. (got.0 i, list i)) closed.closing in
      let done : Does o.looked (access f space addr (writing bytes)) [] closed.last =
      does_then o.looked w.pass closed.last [] (access f space addr (writing bytes)) [] [] opened wrote in
      let ends : result ≡ result_of (access f space addr (writing bytes)) =
      closed.result
      ∙ (λ i. closing_result (generation_in u.pass).forest (p.start i) (e i) w.filling w.len (held_in u.buffer))
      ∙ ap (λ (ds : List AccessStep). result_of ds) flushed in
      let number : (generation_in u.pass).number ≡ number_of w = ap (λ (x : PassValue Published). (generation_in x).number) got.0 in
      record { done = done; ends = ends; number = number }

  whole : IsWhole o.looked f space addr (writing bytes) [] closed.last result (number_of w) (generation_in u.pass).number
  whole = go w.direct refl
    where
      go : (b : Bool) → w.direct ≡ b → IsWhole o.looked f space addr (writing bytes) [] closed.last result (number_of w) (generation_in u.pass).number
      go true e = written_directly e
      go false e = written_by_bounce e

  left : HasEnded w.stays closed.last (number_of w) y
  left = subst (λ (n : ℕ). HasEnded w.stays closed.last n y) whole.number closed.left

  pub whole_put : HasAccessed v space addr (writing bytes) (access_answer result (number_of w)) [] y
  whole_put =
      around_access v o.looked closed.last y w.stays space addr (number_of w) (writing bytes) result [] f o.begun p.kept here whole.done whole.ends left

  pub entered_put : is_entered v ≡ true → HasRun v space addr (writing bytes) result [] y
  entered_put e =
      within_entry v o.looked closed.last y w.stays space addr (number_of w) (writing bytes) result [] f e o.begun p.kept here whole.done whole.ends left
