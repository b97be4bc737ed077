-- After the last phase each pass that is still entered leaves.
use Rattle.std.proofs.Common.{◌≡◌, ℕ, zero, suc, ◌+◌, ◌<◌, ◌≤◌, Bool, true, false, List, [], ◌∷◌, ◌++◌, refl, sym, ap, ◌∙◌, subst}
use Rattle.std.proofs.Common.{arith, append_assoc, append-nil, is_some, not, le_refl, cond}
use mathlib.Core.Logic.{dite}
use native.Mathlib.Decide.{ℕ_discrete}
use Rattle.mem_base.specs.map.PassIds.{PassId}
use Rattle.mem_base.specs.declared.machine.events.Event.TheVariants as events
use Rattle.mem_base.specs.declared.machine.events.Carried.TheVariants.{Nothing}
use Rattle.mem_base.specs.declared.machine.events.HistoryEntry.{HistoryEntry}
use Rattle.mem_base.specs.lists.Every.{Every}
use Rattle.mem_base.specs.map.Limits.{most_passes, notifier_count}
use Rattle.mem_base.specs.machine.Passes.{PassState, pass_id}
use Rattle.mem_base.specs.machine.Actors.{own_entries}
use Rattle.mem_base.specs.machine.Composites.{leaves, leaves_unless}
use Rattle.mem_base.specs.machine.SharedHistory.{Shared, IsSharedLegalFrom, shared_opening}
use Rattle.mem_base.specs.machine.Turns.{Answered, history_entry, replies_of, writers_of}
use Rattle.mem_base.specs.machine.PassTurns.{entries_of}
use Rattle.mem_base.specs.script.Race.{LeavesLast, pass_state, passes}
use Rattle.history_laws.proofs.AppendLaws.{own_append}
use Rattle.turn_laws.proofs.TurnLists.{writers_append}
use Rattle.race_laws.proofs.MachineGoes.{AreOf, Stands, PassGoes, leaves_go, shared_now}
use Rattle.race_laws.proofs.NextNumbers.{next_under}
use Rattle.race_laws.proofs.PhaseParts.{legal_rest, own_apart, own_mine}
use Rattle.race_laws.proofs.PassGoesOn.{state_kept}
use Rattle.race_laws.proofs.PhaseEnds.{every_pass}

-- what a pass makes last
abbrev leave_of : PassState → PassId → List HistoryEntry
leave_of p pass = entries_of [] (leaves_unless (not (is_some p.entered)) pass) []

-- a Leave tells nothing
leave_told : (pass : PassId) (s : Shared) (ns : List ℕ) (ys : List HistoryEntry) → ys ≡ entries_of [] (leaves pass) ns → IsSharedLegalFrom s ys
    → ys ≡ entries_of [] (leaves pass) []
leave_told pass s [] ys e l = e
leave_told pass s (n ∷ ns) ys e l =
    let m = subst (λ (zs : List HistoryEntry). IsSharedLegalFrom s zs) e l in
    e ∙ ap (λ (k : ℕ). history_entry (events.Leave pass) Nothing k ∷ []) m.1

-- the entries of passes are none of the writer's
no_writers : (pass : PassId) (ys : List HistoryEntry) → AreOf pass ys → writers_of ys ≡ []
no_writers pass [] h = refl
no_writers pass (y ∷ ys) h = ap (λ (b : Bool). cond b (y ∷ writers_of ys) (writers_of ys)) h.0.1 ∙ no_writers pass ys h.1

-- the passes of the numbers below `count` left
pub record Lefts (count : ℕ) (pool : ℕ) (os : List Answered) (seen : List HistoryEntry) : Type 0 where
  pub last : List HistoryEntry
  pub stands : Stands pool os (seen ++ last)
  pub below : (pass : PassId) → pass.0 < count → own_entries (pass.0 + 1) last ≡ leave_of (pass_state pass seen) pass
  pub above : (pass : PassId) → count ≤ pass.0 → own_entries (pass.0 + 1) last ≡ []
  pub rests : writers_of last ≡ []

module _ (pool : ℕ) (os : List Answered) (seen : List HistoryEntry) where
  -- this pass made these entries and left, or had not entered
  leave_with : (count : ℕ) (l : Lefts count pool os seen) (ys : List HistoryEntry) → AreOf (pass_id count) ys → Stands pool os ((seen ++ l.last) ++ ys)
      → ys ≡ leave_of (pass_state (pass_id count) seen) (pass_id count) → Lefts (count + 1) pool os seen
  leave_with count l ys mine next is =
      let v : PassId = pass_id count in
      let it_is : (pass : PassId) → pass.0 ≡ count → pass ≡ v = λ pass e i. record { 0 = e i } in record {
        last = l.last ++ ys;
        stands = subst (λ (zs : List HistoryEntry). Stands pool os zs) (append_assoc seen l.last ys) next;
        below = λ pass low. own_append (pass.0 + 1) l.last ys ∙ dite (ℕ_discrete pass.0 count)
            (λ e. let none = l.above pass (omega (arith, e)) in
            (λ i. none i ++ own_entries (pass.0 + 1) ys)
            ∙ subst (λ (u : PassId). own_entries (u.0 + 1) ys ≡ leave_of (pass_state u seen) u) (sym (it_is pass e)) (own_mine v ys mine ∙ is))
            (λ ne. (λ i. l.below pass (next_under pass.0 count low ne) i ++ own_apart v ys pass.0 mine ne i)
            ∙ append-nil (leave_of (pass_state pass seen) pass));
        above = λ pass high. let ne : pass.0 ≡ count → ⊥ = (λ e. omega (arith, high, e)) in
            own_append (pass.0 + 1) l.last ys ∙ (λ i. l.above pass (omega (arith, high)) i ++ own_apart v ys pass.0 mine ne i);
        rests = writers_append l.last ys ∙ (λ i. l.rests i ++ no_writers v ys mine i);
      }

  leave_next : (count : ℕ) → count < most_passes → Lefts count pool os seen → Lefts (count + 1) pool os seen
  leave_next count near l =
      let v : PassId = pass_id count in
      let same : pass_state v (seen ++ l.last) ≡ pass_state v seen = state_kept v seen l.last (seen ++ l.last) refl (l.above v (le_refl count)) in
      go (is_some (pass_state v seen).entered) refl same
    where
      go : (b : Bool) → is_some (pass_state (pass_id count) seen).entered ≡ b → pass_state (pass_id count) (seen ++ l.last) ≡ pass_state (pass_id count) seen
          → Lefts (count + 1) pool os seen
      go true is same =
          let v : PassId = pass_id count in
          let g : PassGoes pool os (seen ++ l.last) v [] (leaves v) =
          leaves_go pool os (seen ++ l.last) l.stands v near (ap (λ (p : PassState). is_some p.entered) same ∙ is) in
          let legal = legal_rest (seen ++ l.last) g.ys (shared_opening (pool + notifier_count) most_passes) g.next.legal in
          leave_with count l g.ys g.mine g.next (leave_told v (shared_now pool (seen ++ l.last)) (replies_of g.ys) g.ys g.are legal
          ∙ ap (λ (b : Bool). entries_of [] (leaves_unless (not b) v) []) (sym is))
      go false is same =
          leave_with count l [] tt (subst (λ (zs : List HistoryEntry). Stands pool os zs) (sym (append-nil (seen ++ l.last))) l.stands)
          (ap (λ (b : Bool). entries_of [] (leaves_unless (not b) (pass_id count)) []) (sym is))

  leaves_next : (k count : ℕ) → count + k ≡ most_passes → Lefts count pool os seen → Lefts most_passes pool os seen
  leaves_next zero count all l = let same : count ≡ most_passes = omega (arith, all) in subst (λ (n : ℕ). Lefts n pool os seen) same l
  leaves_next (suc k) count all l = leaves_next k (count + 1) (omega (arith, all)) (leave_next count (omega (arith, all)) l)

  pub all_leave : Stands pool os seen → Lefts most_passes pool os seen
  all_leave s = leaves_next most_passes 0 refl record {
    last = [];
    stands = subst (λ (zs : List HistoryEntry). Stands pool os zs) (sym (append-nil seen)) s;
    below = λ pass none. absurd (omega (arith, none));
    above = λ pass high. refl;
    rests = refl;
  }

  pub leaves_last : (l : Lefts most_passes pool os seen) → Every (LeavesLast seen l.last) passes
  leaves_last l = every_pass (LeavesLast seen l.last) (λ pass near. l.below pass near)
