-- What a pass does on the running machine, with nothing between, is what the pure machine does in the world that is shown.
use Rattle.std.proofs.Common.{◌≡◌, ◌<◌, ◌+◌, ℕ, eq-eqb, Bool, false, List, [], ◌∷◌, ◌++◌, length, map, replicate, refl, sym, ap, subst, ◌∙◌}
use Rattle.std.proofs.Common.{arith, Option, Some, None, if◌then◌else◌}
use Rattle.std.proofs.lemmas.Bool.{lt-ltb}
use Rattle.std.proofs.lemmas.List.{get_or-replicate}
use Rattle.mem_base.specs.map.PassIds.{PassId}
use Rattle.mem_base.specs.declared.access.cells.Place.{Place}
use Rattle.mem_base.specs.declared.machine.events.Event.{Event}
use Rattle.mem_base.specs.declared.machine.events.Event.TheVariants as events
use Rattle.mem_base.specs.declared.machine.events.HistoryEntry.{HistoryEntry}
use Rattle.mem_base.specs.lists.Every.{Every}
use Rattle.mem_base.specs.map.Limits.{most_passes, notifier_count}
use Rattle.mem_base.specs.access.AccessSteps.{AccessStep, blank, steps, marks, events_of_steps, bytes_read, shown_bytes}
use Rattle.mem_base.specs.machine.Passes.{PassState, idle, pass_of}
use Rattle.mem_base.specs.machine.Generations.{entered_generation, generation_at}
use Rattle.mem_base.specs.machine.Reaps.{Writer}
use Rattle.mem_base.specs.machine.History.{run_events}
use Rattle.mem_base.specs.machine.SharedHistory.{Shared}
use Rattle.mem_base.specs.machine.Composites.{numbers_of}
use Rattle.mem_base.specs.machine.Actors.{actor_of, generations_published, own_entries, pass_after_all}
use Rattle.mem_base.specs.machine.Turns.{is_writers, replies_of}
use Rattle.mem_base.specs.machine.JoinedHistory.{read}
use Rattle.mem_base.specs.machine.PassTurns.{entries_of}
use Rattle.mem_base.specs.script.Race.{pass_state}
use Rattle.mem_base.specs.script.RaceLines.{generation_numbered}
use Rattle.history_laws.specs.Numbers.{HasSoundNumbers}
use Rattle.history_laws.proofs.NumberLaws.{sound}
use Rattle.race_laws.proofs.Running.{IsLegal, IsPassed, IsRun, generation_kept, opening, passed, same_generations, shared_after, world_after}
use Rattle.history_laws.proofs.AppendLaws.{own_append, pass_by_append, pass_owns}

-- The state of a pass is what its own entries make of it

pub pass_is : (pool : ℕ) (seen : List HistoryEntry) (pass : PassId) → pass.0 < most_passes → pass_of (shared_after pool seen).passes pass ≡ pass_state pass seen
pass_is pool seen pass l = pass_owns seen (opening pool) pass.0 l
    ∙ ap (λ (p : PassState). pass_after_all p (own_entries (pass.0 + 1) seen)) (get_or-replicate most_passes pass.0 idle idle l)

-- Entries of a list of events

-- events of one pass
abbrev pub AreOf : PassId → List Event → Type 0
AreOf pass es = Every (λ e. (actor_of e ≡ pass.0 + 1) × (is_writers e ≡ false)) es

pub steps_of : (pass : PassId) (ds : List AccessStep) → AreOf pass (events_of_steps pass ds)
steps_of pass [] = tt
steps_of pass (blank n result ∷ ds) = steps_of pass ds
steps_of pass (steps cell step x ∷ ds) = ((refl, refl), steps_of pass ds)
steps_of pass (marks region client page ∷ ds) = ((refl, refl), steps_of pass ds)

no_writers : (pass : PassId) (ys : List HistoryEntry) → AreOf pass (map (λ y. y.event) ys) → Every (λ y. is_writers y.event ≡ false) ys
no_writers pass [] h = tt
no_writers pass (y ∷ ys) h = (h.0.1, no_writers pass ys h.1)

all_own : (pass : PassId) (ys : List HistoryEntry) → AreOf pass (map (λ y. y.event) ys) → own_entries (pass.0 + 1) ys ≡ ys
all_own pass [] h = refl
all_own pass (y ∷ ys) h =
    ap (λ (b : Bool). if b then y ∷ own_entries (pass.0 + 1) ys else own_entries (pass.0 + 1) ys) (eq-eqb (actor_of y.event) (pass.0 + 1) h.0.0)
    ∙ ap (λ (zs : List HistoryEntry). y ∷ zs) (all_own pass ys h.1)

-- steps on cells and marks leave the pass as it is
pub steps_stay : (pass : PassId) (places : List Place) (ds : List AccessStep) (p : PassState) (rs : List ℕ)
    → pass_after_all p (entries_of places (events_of_steps pass ds) rs) ≡ p
steps_stay pass places [] p rs = refl
steps_stay pass places (blank n result ∷ ds) p rs = steps_stay pass places ds p rs
steps_stay pass places (steps cell step x ∷ ds) p [] = steps_stay pass places ds p []
steps_stay pass places (steps cell step x ∷ ds) p (r ∷ rs) = steps_stay pass places ds p rs
steps_stay pass places (marks region client page ∷ ds) p [] = steps_stay pass places ds p []
steps_stay pass places (marks region client page ∷ ds) p (r ∷ rs) = steps_stay pass places ds p rs

-- the bytes that are read by the replies are those by the numbers
pub same_bytes : (pass : PassId) (places : List Place) (ds : List AccessStep) (rs : List ℕ)
    → bytes_read ds (replies_of (entries_of places (events_of_steps pass ds) rs))
    ≡ bytes_read ds (numbers_of (map read (entries_of places (events_of_steps pass ds) rs)))
same_bytes pass places [] rs = refl
same_bytes pass places (blank n result ∷ ds) rs = ap (λ (bs : List ℕ). replicate n 0 ++ bs) (same_bytes pass places ds rs)
same_bytes pass places (steps cell step x ∷ ds) [] =
    ap (λ (bs : List ℕ). shown_bytes x 0 ++ bs) (same_bytes pass places ds [])
same_bytes pass places (steps cell step x ∷ ds) (r ∷ rs) =
    ap (λ (bs : List ℕ). shown_bytes x r ++ bs) (same_bytes pass places ds rs)
same_bytes pass places (marks region client page ∷ ds) [] = same_bytes pass places ds []
same_bytes pass places (marks region client page ∷ ds) (r ∷ rs) = same_bytes pass places ds rs

module _ (pool : ℕ) (h : Writer) (pass : PassId) (near : pass.0 < most_passes) where
  -- events of the pass, made one after another
  pub record Made (zs ys : List HistoryEntry) (es : List Event) (p : PassState) : Type 0 where
    pub world : world_after pool h (zs ++ ys) ≡ (run_events (world_after pool h zs) es).world
    pub entries : map read ys ≡ (run_events (world_after pool h zs) es).entries
    pub goes : IsRun pool h (zs ++ ys)
    pub state : pass_after_all p ys ≡ pass_state pass (zs ++ ys)

  pub made : (zs ys : List HistoryEntry) (es : List Event) (p : PassState) → map (λ y. y.event) ys ≡ es → AreOf pass es → p ≡ pass_state pass zs
      → IsRun pool h zs → IsLegal pool (zs ++ ys) → Made zs ys es p
  made zs ys es p are mine state r legal =
      let ours : AreOf pass (map (λ y. y.event) ys) = subst (AreOf pass) (sym are) mine in
      let done : IsPassed pool h zs ys = passed pool h zs ys r legal (no_writers pass ys ours) in record {
        world = done.world ∙ ap (λ (fs : List Event). (run_events (world_after pool h zs) fs).world) are;
        entries = done.entries ∙ ap (λ (fs : List Event). (run_events (world_after pool h zs) fs).entries) are;
        goes = done.goes;
        state = ap (λ (q : PassState). pass_after_all q ys) state
            ∙ sym (ap (λ (os : List HistoryEntry). pass_after_all idle os) (own_append (pass.0 + 1) zs ys)
            ∙ pass_by_append (own_entries (pass.0 + 1) zs) (own_entries (pass.0 + 1) ys) idle
            ∙ ap (λ (os : List HistoryEntry). pass_after_all (pass_state pass zs) os) (all_own pass ys ours));
      }

  -- the generation in which the pass is entered is the one that was published under that number
  pub entered_is : (zs rest : List HistoryEntry) (n : ℕ) → (pass_state pass zs).entered ≡ Some n → IsRun pool h zs → IsLegal pool zs
      → entered_generation h.generations (shared_after pool zs).passes pass ≡ Some (generation_numbered (generations_published (zs ++ rest)) n)
  entered_is zs rest n e r legal =
      let s : Shared = shared_after pool zs in
      let k : HasSoundNumbers (pool + notifier_count) most_passes (generations_published zs) s = sound (pool + notifier_count) most_passes zs legal in
      let now : (pass_of s.passes pass).entered ≡ Some n = ap (λ (p : PassState). p.entered) (pass_is pool zs pass near) ∙ e in
      let order = k.each pass.0 near in
      let t = order.entered n now in
      let low = t.3 in let high = t.4 in let far = order.near in
      let many : length s.passes ≡ most_passes = k.many in
      ap (λ g. entered_generation g s.passes pass) (sym (same_generations pool h zs r legal))
      ∙ ap (λ (b : Bool). if b then generation_at s.generations (pass_of s.passes pass).entered else None)
      (lt-ltb pass.0 (length s.passes) (omega (arith, many, near)))
      ∙ ap (λ (o : Option ℕ). generation_at s.generations o) now
      ∙ generation_kept (pool + notifier_count) zs rest s k n high (omega arith)
