-- A read window that is got whole is the defined read.
use Rattle.std.proofs.Common.{◌≡◌, ℕ, ◌||◌, Bool, true, false, List, [], length, take, drop, Option}
use Rattle.std.proofs.Common.{refl, sym, ap, subst, ◌∙◌, if◌then◌else◌}
use Rattle.std.specs.Prelude.{MatchBool}
use Rattle.mem_base.specs.declared.map.ids.SpaceId.{SpaceId}
use Rattle.mem_base.specs.declared.map.forests.Forest.{Forest}
use Rattle.mem_base.specs.declared.access.accesses.TxResult.{TxResult}
use Rattle.mem_base.specs.access.AccessSteps.{reading, AccessStep, result_of}
use Rattle.mem_base.specs.access.Access.{access}
use Rattle.generation.specs.Published.{Published}
use Rattle.epoch_rule.specs.Values.{PassValue}
use Rattle.vcpu_pass.specs.Steps.{generation_in}
use Rattle.vcpu_pass.specs.Around.{HasEnded}
use Rattle.vcpu_pass.specs.Calls.{is_entered, HasAccessed}
use Rattle.mem_base.specs.declared.access.accesses.WindowStart.{WindowStart}
use Rattle.mem_base.specs.access.Windows.{window_start, target_at, chunk_length, part_steps, opening_steps, closing_steps, closing_result}
use Rattle.io_window.specs.Windows.{WindowValue, forest_of, number_of, held_in}
use Rattle.io_window.specs.Calls.{Does, IsOpened, HasOpened, HasGot, HasClosed, with_pass}
use Rattle.io_window.specs.Whole.{access_answer, HasRun}
use Rattle.io_window.proofs.ChunkLaws.{read_is, part_read_fine}
use Rattle.io_window.proofs.WholeLaws.{does_then, then_nothing, same_generation, around_access, direct_length, IsWhole, within_entry}

module _ (v y : PassValue Published) (space : SpaceId) (addr asked used : ℕ) (handed given : Option ℕ) (w u : WindowValue) (bytes : List ℕ)
    (result : TxResult) (o : HasOpened v (window_start space addr false) asked handed w) (size : length bytes ≡ w.len) (g : HasGot w 0 bytes u)
    (k : HasClosed u used y given result) where
  abbrev s : WindowStart
  s = window_start space addr false

  abbrev f : Forest
  f = forest_of w

  p : IsOpened o.looked (is_entered v) s asked handed w
  p = o.opened

  closed : HasClosed (with_pass w u.pass) used y given result
  closed = subst (λ (z : WindowValue). HasClosed z used y given result) g.0 k

  here : f ≡ (generation_in o.looked).forest
  here = ap (λ (x : Published). x.forest) (same_generation o.looked w.pass _ _ p.filled)

  -- closing a window that is read does nothing
  nothing : Does u.pass [] [] closed.last
  nothing =
      subst (λ (z : WindowStart). Does u.pass (closing_steps (generation_in u.pass).forest z w.direct used (held_in w.buffer)) [] closed.last)
      p.start closed.closing

  read_directly : w.direct ≡ true → IsWhole o.looked f space addr (reading w.len) bytes closed.last result (number_of w) (generation_in u.pass).number
  read_directly e =
      let opened : Does o.looked [] [] w.pass =
      subst (λ (b : Bool). Does o.looked (opening_steps f s b w.len) (if b || false then [] else take w.len (held_in w.buffer)) w.pass) e p.filled in
      let got : Does w.pass (part_steps (target_at f w.start) 0 (reading (length bytes))) bytes u.pass =
      subst (λ (b : Bool). MatchBool b (Does w.pass (part_steps (target_at f w.start) 0 (reading (length bytes))) bytes u.pass)
      ((u.pass ≡ w.pass) × (bytes ≡ take (length bytes) (drop 0 (held_in w.buffer))))) e g.1 in
      let long : w.len ≡ chunk_length f s asked = direct_length f s asked (length (held_in w.buffer)) w.len w.direct p.direct e p.len in
      let list : access f space addr (reading w.len) ≡ part_steps (target_at f s) 0 (reading w.len) =
      read_is f space addr asked w.len (sym p.direct ∙ e) long p.some in
      let same : part_steps (target_at f w.start) 0 (reading (length bytes)) ≡ access f space addr (reading w.len) =
      (λ i. part_steps (target_at f (p.start i)) 0 (reading (size i))) ∙ sym list in
      let done : Does o.looked (access f space addr (reading w.len)) bytes closed.last =
      does_then o.looked w.pass closed.last [] (access f space addr (reading w.len)) [] bytes opened
      (then_nothing w.pass u.pass closed.last (access f space addr (reading w.len)) bytes
      (subst (λ (ds : List AccessStep). Does w.pass ds bytes u.pass) same got) nothing) in
      let fine : result ≡ result_of (access f space addr (reading w.len)) =
      closed.result ∙ ap (λ (b : Bool). closing_result (generation_in u.pass).forest w.start b w.filling used (held_in w.buffer)) e
      ∙ part_read_fine (target_at f s) 0 w.len ∙ ap (λ (ds : List AccessStep). result_of ds) (sym list) in
      let number : (generation_in u.pass).number ≡ number_of w =
      ap (λ (x : Published). x.number) (same_generation w.pass u.pass _ _ got) in
      record { done = done; ends = fine; number = number }

  read_by_bounce : w.direct ≡ false → IsWhole o.looked f space addr (reading w.len) bytes closed.last result (number_of w) (generation_in u.pass).number
  read_by_bounce e =
      let opened : Does o.looked (access f space addr (reading w.len)) (take w.len (held_in w.buffer)) w.pass =
      subst (λ (b : Bool). Does o.looked (opening_steps f s b w.len) (if b || false then [] else take w.len (held_in w.buffer)) w.pass) e p.filled in
      let got : (u.pass ≡ w.pass) × (bytes ≡ take (length bytes) (drop 0 (held_in w.buffer))) =
      subst (λ (b : Bool). MatchBool b (Does w.pass (part_steps (target_at f w.start) 0 (reading (length bytes))) bytes u.pass)
      ((u.pass ≡ w.pass) × (bytes ≡ take (length bytes) (drop 0 (held_in w.buffer))))) e g.1 in
      let all : take w.len (held_in w.buffer) ≡ bytes = ap (λ (n : ℕ). take n (held_in w.buffer)) (sym size) ∙ sym got.1 in
      let later : Does w.pass [] [] closed.last = subst (λ (x : PassValue Published). Does x [] [] closed.last) got.0 nothing in
      let done : Does o.looked (access f space addr (reading w.len)) bytes closed.last =
      subst (λ (bs : List ℕ). Does o.looked (access f space addr (reading w.len)) bs closed.last) all
      (then_nothing o.looked w.pass closed.last (access f space addr (reading w.len)) (take w.len (held_in w.buffer)) opened later) in
      let ends : result ≡ result_of (access f space addr (reading w.len)) =
      closed.result
      ∙ (λ i. closing_result (generation_in u.pass).forest (p.start i) (e i) w.filling used (held_in w.buffer))
      ∙ p.filling ∙ ap (λ (b : Bool). result_of (opening_steps f s b w.len)) e in
      let number : (generation_in u.pass).number ≡ number_of w = ap (λ (x : PassValue Published). (generation_in x).number) got.0 in
      record { done = done; ends = ends; number = number }

  whole : IsWhole o.looked f space addr (reading w.len) bytes closed.last result (number_of w) (generation_in u.pass).number
  whole = go w.direct refl
    where
      go : (b : Bool) → w.direct ≡ b → IsWhole o.looked f space addr (reading w.len) bytes closed.last result (number_of w) (generation_in u.pass).number
      go true e = read_directly e
      go false e = read_by_bounce e

  left : HasEnded w.stays closed.last (number_of w) y
  left = subst (λ (n : ℕ). HasEnded w.stays closed.last n y) whole.number closed.left

  pub whole_get : HasAccessed v space addr (reading w.len) (access_answer result (number_of w)) bytes y
  whole_get =
      around_access v o.looked closed.last y w.stays space addr (number_of w) (reading w.len) result bytes f o.begun p.kept here whole.done whole.ends left

  pub entered_get : is_entered v ≡ true → HasRun v space addr (reading w.len) result bytes y
  entered_get e =
      within_entry v o.looked closed.last y w.stays space addr (number_of w) (reading w.len) result bytes f e o.begun p.kept here whole.done whole.ends left
