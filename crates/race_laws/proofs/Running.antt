-- Where a run of the machine stands: after the turns of some orders and what the passes did, one after another. One more turn,
-- and more entries of passes, are the pure machine's.
use Rattle.std.proofs.Common.{◌≡◌, ◌<◌, ◌≤◌, ◌+◌, ◌-◌, ℕ, zero, suc, false, List, [], ◌∷◌, ◌++◌, length, map}
use Rattle.std.proofs.Common.{refl, sym, ap, subst, ◌∙◌, arith}
use Rattle.std.specs.Prelude.{flat_map, slice_get, slice_index_or, Some, None, if◌then◌else◌}
use Rattle.std.proofs.lemmas.Bool.{le-leb}
use Rattle.mem_base.specs.declared.machine.events.Event.TheVariants as events
use Rattle.mem_base.specs.declared.machine.events.HistoryEntry.{HistoryEntry}
use Rattle.mem_base.specs.lists.Every.{Every}
use Rattle.mem_base.specs.map.Limits.{most_passes, notifier_count}
use Rattle.mem_base.specs.machine.Generations.{Generation, Generations, generation_of}
use Rattle.mem_base.specs.machine.Publishing.{current_forest, forest_in}
use Rattle.mem_base.specs.machine.Reaps.{Writer, first_writer}
use Rattle.mem_base.specs.machine.World.{World}
use Rattle.mem_base.specs.machine.History.{run_events}
use Rattle.mem_base.specs.machine.SharedHistory.{Shared, IsSharedLegal, after_shared_entries, shared_opening}
use Rattle.mem_base.specs.machine.Orders.{Order}
use Rattle.mem_base.specs.machine.Composites.{completed}
use Rattle.mem_base.specs.machine.Actors.{first_generation, generations_published}
use Rattle.mem_base.specs.machine.Turns.{Answered, WriterCall, turn, turns, entries_of_turn, last_writer, is_writers, writers_of}
use Rattle.mem_base.specs.machine.JoinedHistory.{read}
use Rattle.mem_base.specs.script.RaceLines.{generation_numbered}
use Rattle.view_laws.proofs.Tests.{none_is_not_some}
use Rattle.history_laws.specs.Numbers.{HasSoundNumbers}
use Rattle.history_laws.proofs.NumberLaws.{sound}
use Rattle.mem_base.specs.machine.ShownWorlds.{world_shown}
use Rattle.end_laws.specs.Shown.{GoesOn, IsCompletedTurn, IsPassRun}
use Rattle.end_laws.proofs.EndLaws.{turns_end_in}
use Rattle.end_laws.proofs.GoingOn.{turns_go_on}
use Rattle.end_laws.proofs.Shows.{pass_entries_run, turn_is_completed}
use Rattle.end_laws.proofs.TurnRuns.{shared_both}
use Rattle.history_laws.proofs.AppendLaws.{after_append, generation_stays}
use Rattle.std.proofs.lemmas.Option.{same_Some}

module _ (pool : ℕ) where
  abbrev pub opening : Shared
  opening = shared_opening (pool + notifier_count) most_passes

  abbrev pub IsLegal : List HistoryEntry → Type 0
  IsLegal xs = IsSharedLegal (pool + notifier_count) most_passes xs

  -- the shared state after what was seen, and the world that is shown there
  abbrev pub shared_after : List HistoryEntry → Shared
  shared_after seen = after_shared_entries opening seen

  abbrev pub world_after : Writer → List HistoryEntry → World
  world_after h seen = world_shown h (shared_after seen)

  -- the writer's entries in what was seen are those of turns, which led to its part
  pub record IsRun (h : Writer) (seen : List HistoryEntry) : Type 0 where
    pub os : List Answered
    pub writer : h ≡ last_writer (first_writer pool most_passes) (turns (first_writer pool most_passes) os)
    pub same : writers_of seen ≡ flat_map entries_of_turn (turns (first_writer pool most_passes) os)

  pub first_part : (xs ys : List HistoryEntry) → IsLegal (xs ++ ys) → IsLegal xs
  first_part xs ys l = (shared_both xs ys opening l).0

  -- one more turn
  pub record IsTurned (h : Writer) (seen : List HistoryEntry) (k : Order) (t : WriterCall) : Type 0 where
    pub answer : t.answer ≡ (completed (world_after h seen) k).answer
    pub world : world_after t.writer (seen ++ entries_of_turn t) ≡ (completed (world_after h seen) k).world
    pub goes : IsRun t.writer (seen ++ entries_of_turn t)

  pub turned : (h : Writer) (seen : List HistoryEntry) (k : Order) (replies : List ℕ) → IsRun h seen
      → IsLegal (seen ++ entries_of_turn (turn h k replies)) → IsTurned h seen k (turn h k replies)
  turned h seen k replies r legal =
      let first : Writer = first_writer pool most_passes in
      let t : WriterCall = turn h k replies in
      let done : IsCompletedTurn (world_after h seen) k t (after_shared_entries (shared_after seen) (entries_of_turn t)) =
      subst (λ (z : Writer). IsLegal (seen ++ entries_of_turn (turn z k replies))
      → IsCompletedTurn (world_after z seen) k (turn z k replies) (after_shared_entries (shared_after seen) (entries_of_turn (turn z k replies))))
      (sym r.writer) (λ l. turn_is_completed pool most_passes r.os seen k replies r.same l) legal in
      let more : GoesOn first r.os seen = turns_go_on first r.os seen r.same in
      record {
        answer = done.answer;
        world = ap (λ (s : Shared). world_shown t.writer s) (after_append seen (entries_of_turn t) opening) ∙ done.world;
        goes = record {
          os = r.os ++ (k, replies) ∷ [];
          writer = ap (λ (z : Writer). (turn z k replies).writer) r.writer ∙ sym (more.turn k replies).1;
          same = ap (λ (z : Writer). writers_of (seen ++ entries_of_turn (turn z k replies))) r.writer ∙ (more.turn k replies).0;
        };
      }

  -- more entries of passes
  pub record IsPassed (h : Writer) (seen ys : List HistoryEntry) : Type 0 where
    pub entries : map read ys ≡ (run_events (world_after h seen) (map (λ y. y.event) ys)).entries
    pub world : world_after h (seen ++ ys) ≡ (run_events (world_after h seen) (map (λ y. y.event) ys)).world
    pub goes : IsRun h (seen ++ ys)

  pub passed : (h : Writer) (seen ys : List HistoryEntry) → IsRun h seen → IsLegal (seen ++ ys) → Every (λ y. is_writers y.event ≡ false) ys
      → IsPassed h seen ys
  passed h seen ys r legal mine =
      let first : Writer = first_writer pool most_passes in
      let done : IsPassRun (world_after h seen) h ys (after_shared_entries (shared_after seen) ys) =
      subst (λ (z : Writer). IsPassRun (world_after z seen) z ys (after_shared_entries (shared_after seen) ys)) (sym r.writer)
      (pass_entries_run pool most_passes r.os seen ys r.same legal mine) in
      let more : GoesOn first r.os seen = turns_go_on first r.os seen r.same in
      record {
        entries = done.entries;
        world = ap (λ (s : Shared). world_shown h s) (after_append seen ys opening) ∙ done.world;
        goes = record { os = r.os; writer = r.writer; same = more.passes ys mine };
      }

  -- what the writer knows of the generations is what they are
  pub same_generations : (h : Writer) (seen : List HistoryEntry) → IsRun h seen → IsLegal seen → (shared_after seen).generations ≡ h.generations
  same_generations h seen r legal = (turns_end_in pool most_passes r.os seen legal r.same).generations ∙ ap (λ (z : Writer). z.generations) (sym r.writer)

-- Generations that were published

got_there : (gs : List Generation) (n : ℕ) → n < length gs → slice_get gs n ≡ Some (slice_index_or gs n first_generation)
got_there [] n l = absurd (omega arith)
got_there (g ∷ gs) zero l = refl
got_there (g ∷ gs) (suc n) l = got_there gs n (omega arith)

-- where that of a number is kept, it is the one that was published under this number, also by a longer history
pub generation_kept : (words : ℕ) (seen rest : List HistoryEntry) (s : Shared) → HasSoundNumbers words most_passes (generations_published seen) s
    → (n : ℕ) → n ≤ s.generations.current → s.generations.current ≤ n + 7
    → generation_of s.generations n ≡ Some (generation_numbered (generations_published (seen ++ rest)) n)
generation_kept words seen rest s k n low near =
    let count : length (generations_published seen) ≡ s.generations.current + 1 = k.counted in
    let l : n < length (generations_published seen) = omega arith in
    ap (λ b. if b then slice_get s.generations.kept (s.generations.current - n) else None) (le-leb n s.generations.current low)
    ∙ k.kept n low near ∙ got_there (generations_published seen) n l
    ∙ ap (λ (g : Generation). Some g) (sym (generation_stays seen (seen ++ rest) (rest, refl) n l))

first_forest : (gs : List Generation) (n : ℕ) (g : Generation) → n ≡ 0 → slice_get gs n ≡ Some g → forest_in gs ≡ g.forest
first_forest [] n g z e = none_is_not_some g e
first_forest (x ∷ xs) n g z e = ap (λ (y : Generation). y.forest) (same_Some x g (sym (ap (λ (m : ℕ). slice_get (x ∷ xs) m) z) ∙ e))

-- the forest of the current number is the current one
pub current_shown : (pool : ℕ) (h : Writer) (seen rest : List HistoryEntry) → IsRun pool h seen → IsLegal pool seen
    → (generation_numbered (generations_published (seen ++ rest)) h.generations.current).forest ≡ current_forest h.generations
current_shown pool h seen rest r legal =
    let s : Shared = shared_after pool seen in
    let k : HasSoundNumbers (pool + notifier_count) most_passes (generations_published seen) s = sound (pool + notifier_count) most_passes seen legal in
    let c : ℕ = s.generations.current in
    let count : length (generations_published seen) ≡ c + 1 = k.counted in
    let l : c < length (generations_published seen) = omega arith in
    let here : forest_in s.generations.kept ≡ (generation_numbered (generations_published (seen ++ rest)) c).forest =
    first_forest s.generations.kept (c - c) (generation_numbered (generations_published (seen ++ rest)) c) (omega arith)
    (k.kept c (omega arith) (omega arith) ∙ got_there (generations_published seen) c l
    ∙ ap (λ (g : Generation). Some g) (sym (generation_stays seen (seen ++ rest) (rest, refl) c l))) in
    subst (λ (g : Generations). (generation_numbered (generations_published (seen ++ rest)) g.current).forest ≡ current_forest g)
    (same_generations pool h seen r legal) (sym here)
