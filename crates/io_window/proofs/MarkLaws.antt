-- A direct write window marks, as it is closed, what was put.
use Rattle.std.proofs.Common.{◌≡◌, ℕ, ◌||◌, Bool, true, false, List, [], ◌∷◌, ◌++◌, length, take, Option}
use Rattle.std.proofs.Common.{refl, sym, ap, subst, ◌∙◌, if◌then◌else◌, option_map}
use Rattle.std.specs.Prelude.{MatchBool}
use Rattle.mem_base.specs.map.PassIds.{PassId}
use Rattle.mem_base.specs.declared.map.ids.SpaceId.{SpaceId}
use Rattle.mem_base.specs.declared.map.forests.Forest.{Forest}
use Rattle.mem_base.specs.declared.access.accesses.Target.{Target}
use Rattle.mem_base.specs.declared.access.accesses.TxResult.{TxResult}
use Rattle.mem_base.specs.declared.machine.events.Event.{Event}
use Rattle.mem_base.specs.access.AccessSteps.{writing, AccessStep, events_of_steps}
use Rattle.mem_base.specs.machine.Passes.{pass_id}
use Rattle.mem_base.specs.machine.Generations.{Generation}
use Rattle.generation.specs.Published.{Published}
use Rattle.epoch_rule.specs.Values.{PassValue}
use Rattle.vcpu_pass.specs.Steps.{generation_in}
use Rattle.vcpu_pass.specs.Around.{HasBegun, HasEnded}
use Rattle.vcpu_pass.specs.Calls.{generation_of, is_entered}
use Rattle.vcpu_pass.proofs.CallLaws.{around}
use Rattle.mem_base.specs.declared.access.accesses.WindowStart.{WindowStart}
use Rattle.mem_base.specs.access.Windows.{window_start, target_at, part_steps, mark_steps, opening_steps, closing_steps}
use Rattle.io_window.specs.Windows.{WindowValue, forest_of, number_of, held_in}
use Rattle.io_window.specs.Calls.{Does, HasOpened, HasPut, HasClosed, put_in}
use Rattle.io_window.specs.Whole.{HasMovedBy, HasMoved, HavePut, puts_steps, marked_puts}
use Rattle.io_window.proofs.WholeLaws.{does_then, does_nothing, same_generation}

-- a window that was put is the same window, and what was put was done to its memory
record WasPut (w : WindowValue) (s : WindowStart) (x : Target) (ds : List AccessStep) (u : WindowValue) : Type 0 where
  pub does : Does w.pass ds [] u.pass
  pub direct : u.direct ≡ true
  pub start : u.start ≡ s
  pub stays : u.stays ≡ w.stays
  pub target : target_at (forest_of u) s ≡ x
  pub number : number_of u ≡ number_of w

put_once : (w u : WindowValue) (s : WindowStart) (x : Target) (at : ℕ) (bytes : List ℕ) → w.direct ≡ true → w.start ≡ s → target_at (forest_of w) s ≡ x
    → HasPut w at bytes u → WasPut w s x (part_steps x at (writing bytes)) u
put_once w u s x at bytes direct start target h =
    let got : (u.buffer ≡ w.buffer) × Does w.pass (part_steps (target_at (forest_of w) w.start) at (writing bytes)) [] u.pass =
    subst (λ (b : Bool). MatchBool b ((u.buffer ≡ w.buffer) × Does w.pass (part_steps (target_at (forest_of w) w.start) at (writing bytes)) [] u.pass)
    ((u.pass ≡ w.pass) × (u.buffer ≡ option_map (put_in at bytes) w.buffer))) direct h.2 in
    let there : target_at (forest_of w) w.start ≡ x = ap (target_at (forest_of w)) start ∙ target in
    let done : Does w.pass (part_steps x at (writing bytes)) [] u.pass =
    subst (λ (z : Target). Does w.pass (part_steps z at (writing bytes)) [] u.pass) there got.1 in
    let same : generation_in u.pass ≡ generation_in w.pass = same_generation w.pass u.pass _ _ done in record {
      does = done;
      direct = ap (λ (z : WindowValue). z.direct) h.0 ∙ direct;
      start = ap (λ (z : WindowValue). z.start) h.0 ∙ start;
      stays = ap (λ (z : WindowValue). z.stays) h.0;
      target = ap (λ (g : Published). target_at g.forest s) same ∙ target;
      number = ap (λ (g : Published). g.number) same;
    }

put_parts : (parts : List (ℕ × List ℕ)) (w u : WindowValue) (s : WindowStart) (x : Target) → w.direct ≡ true → w.start ≡ s → target_at (forest_of w) s ≡ x
    → HavePut w parts u → WasPut w s x (puts_steps x parts) u
put_parts [] w u s x direct start target h =
    subst (λ (z : WindowValue). WasPut w s x [] z) (sym h)
    (record { does = does_nothing w.pass; direct = direct; start = start; stays = refl; target = target; number = refl })
put_parts (part ∷ parts) w u s x direct start target h =
    let first = put_once w h.0 s x part.0 part.1 direct start target h.1 in
    let rest = put_parts parts h.0 u s x first.direct first.start first.target h.2 in record {
      does = does_then w.pass h.0.pass u.pass (part_steps x part.0 (writing part.1)) (puts_steps x parts) [] [] first.does rest.does;
      direct = rest.direct;
      start = rest.start;
      stays = rest.stays ∙ first.stays;
      target = rest.target;
      number = rest.number ∙ first.number;
    }

-- what is made between what comes before it and after it
pub around_steps : (v looked last y : PassValue Published) (stays : Bool) (number : ℕ) (does : Forest → List AccessStep) (bytes : List ℕ)
    → HasBegun (is_entered v) v looked
    → stays ≡ is_entered v → Does looked (does (generation_in looked).forest) bytes last → HasEnded stays last number y → HasMoved v does bytes number y
around_steps v looked last y stays number does bytes begun same done ended =
    let ds : List AccessStep = does (generation_in looked).forest in
    let es : PassId → List Event = λ p. events_of_steps p ds in
    let a = around (is_entered v) v looked last y es done.replies number begun done.each done.made
    (subst (λ (b : Bool). HasEnded b last number y) same ended) in
    let pass : looked.number ≡ v.number = number_of_begun (is_entered v) v looked begun in
    subst (λ (x : Generation). HasMovedBy x v (does x.forest) bytes number y) a.shown record {
      goes_by = a.goes_by;
      looked = a.looked;
      replies = done.replies;
      each = done.each ∙ ap (λ (k : ℕ). length (es (pass_id k))) pass;
      made = a.made;
      read = done.read;
    }
  where
    number_of_begun : (e : Bool) (u v : PassValue Published) → HasBegun e u v → v.number ≡ u.number
    number_of_begun true u v b = ap (λ x. x.number) (b.same refl)
    number_of_begun false u v b = (b.came refl).1.number

-- and that generation is the one in which the pass looked
pub around_shown : (v looked last y : PassValue Published) (stays : Bool) (number : ℕ) (ds : List AccessStep) (bytes : List ℕ)
    → HasBegun (is_entered v) v looked → stays ≡ is_entered v → Does looked ds bytes last → HasEnded stays last number y
    → (generation_in looked).forest ≡ (generation_of y number).forest
around_shown v looked last y stays number ds bytes begun same done ended =
    let a = around (is_entered v) v looked last y (λ p. events_of_steps p ds) done.replies number begun done.each done.made
    (subst (λ (b : Bool). HasEnded b last number y) same ended) in
    ap (λ (x : Generation). x.forest) a.shown

pub direct_puts : (v y : PassValue Published) (space : SpaceId) (addr asked used : ℕ) (handed given : Option ℕ) (w u : WindowValue)
    (parts : List (ℕ × List ℕ)) (result : TxResult) → HasOpened v (window_start space addr true) asked handed w → w.direct ≡ true → HavePut w parts u
    → HasClosed u used y given result → HasMoved v (marked_puts (window_start space addr true) parts used) [] (number_of w) y
direct_puts v y space addr asked used handed given w u parts result o e h k =
    let s : WindowStart = window_start space addr true in
    let p = o.opened in
    let x : Target = target_at (forest_of w) s in
    let opened : Does o.looked [] [] w.pass =
    subst (λ (b : Bool). Does o.looked (opening_steps (forest_of w) s b w.len) (if b || true then [] else take w.len (held_in w.buffer)) w.pass) e p.filled in
    let q : WasPut w s x (puts_steps x parts) u = put_parts parts w u s x e p.start refl h in
    let marks : closing_steps (forest_of u) u.start u.direct used (held_in u.buffer) ≡ mark_steps x used =
    (λ i. closing_steps (forest_of u) (q.start i) (q.direct i) used (held_in u.buffer)) ∙ ap (λ (z : Target). mark_steps z used) q.target in
    let marked : Does u.pass (mark_steps x used) [] k.last = subst (λ (ds : List AccessStep). Does u.pass ds [] k.last) marks k.closing in
    let here : target_at (forest_of w) s ≡ target_at (generation_in o.looked).forest s =
    ap (λ (g : Published). target_at g.forest s) (same_generation o.looked w.pass _ _ opened) in
    let done : Does o.looked (marked_puts s parts used (generation_in o.looked).forest) [] k.last =
    subst (λ (z : Target). Does o.looked (puts_steps z parts ++ mark_steps z used) [] k.last) here
    (does_then o.looked w.pass k.last [] (puts_steps x parts ++ mark_steps x used) [] [] opened
    (does_then w.pass u.pass k.last (puts_steps x parts) (mark_steps x used) [] [] q.does marked)) in
    around_steps v o.looked k.last y u.stays (number_of w) (marked_puts s parts used) [] o.begun (q.stays ∙ p.kept) done
    (subst (λ (n : ℕ). HasEnded u.stays k.last n y) q.number k.left)
