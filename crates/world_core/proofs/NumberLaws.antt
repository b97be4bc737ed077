-- Numbers of generations are few: each publish had a call of its own.
use Rattle.std.proofs.Common.{◌≡◌, ℕ, ◌+◌, ◌<◌, ◌≤◌, Bool, true, false, List, [], ◌∷◌, refl, sym, subst, arith}
use Rattle.std.specs.Prelude.{◌^◌, ◌==◌, ◌&&◌, ◌||◌, not, if◌then◌else◌, is_ok, Result, Ok, Err}
use Rattle.mem_base.specs.declared.map.forests.Forest.{Forest}
use Rattle.mem_base.specs.declared.map.calls.Applied.{Applied}
use Rattle.mem_base.specs.declared.map.calls.Call.{Call}
use Rattle.mem_base.specs.declared.map.calls.Config.{Config}
use Rattle.mem_base.specs.declared.map.calls.Config.TheVariants as configs
use Rattle.mem_base.specs.declared.map.refusals.Refusal.{Refusal}
use Rattle.mem_base.specs.declared.machine.events.Event.{Event}
use Rattle.mem_base.specs.declared.machine.events.Event.TheVariants as events
use Rattle.mem_base.specs.map.Limits.{most_calls}
use Rattle.mem_base.specs.map.Forest.{IsMade}
use Rattle.mem_base.specs.map.Calls.{after as forest_after, left_by, is_quiet}
use Rattle.mem_base.specs.machine.Committed.{TransactionState, transaction, transaction_after, commits}
use Rattle.mem_base.specs.machine.Desk.{Desk}
use Rattle.mem_base.specs.machine.Configs.{configured}
use Rattle.mem_base.specs.machine.World.{World, opening, possible, number_in, world_after, after_telling}
use Rattle.mem_base.specs.machine.History.{PureEntry, after_entry, after_entries, IsLegalFrom}
use Rattle.history_laws.proofs.Outcomes.{Tells, outcome}
use Rattle.world_laws.proofs.Running.{Sound, sound, sound_after}
use Rattle.transact.proofs.MadeLaws.{counted_after, closed_made}
use Rattle.world_hand.specs.Reached.{IsReached}
use Rattle.std.proofs.lemmas.Bool.{and_parts, not-true}
use Rattle.turn_laws.proofs.PrivateSteps.{nothing_unfilled}

-- a flag that is on counts as one
abbrev pub one : Bool → ℕ
one b = if b then 1 else 0

one_at_most : (b : Bool) → one b ≤ 1
one_at_most true = omega arith
one_at_most false = omega arith

-- a change that is pending, and a publish that is due, count as one more publish each
abbrev pub owed : Desk → ℕ
owed d = one d.pending + one d.due

-- the number, with what is owed, is at most the number of calls
abbrev pub FewPublishes : ℕ → Desk → Type 0
FewPublishes number d = number + owed d ≤ d.forest.calls

-- of what stands

abbrev Counts : ℕ → TransactionState → Bool → Type 0
Counts number s due = number + (one s.pending + one due) ≤ s.forest.calls

refused_counts : (number calls : ℕ) (z q p : Bool) → number + one p ≤ calls → number + (one (not z && (p || (q && false))) + one (z && (q && false))) ≤ calls
refused_counts number calls true true p l = let few : one p ≤ 1 = one_at_most p in omega (arith, l)
refused_counts number calls true false p l = omega (arith, l)
refused_counts number calls false true true l = l
refused_counts number calls false true false l = l
refused_counts number calls false false true l = l
refused_counts number calls false false false l = l

accepted_counts : (number calls : ℕ) (z q p : Bool) → number + one p ≤ calls → number + (one (not z && (p || (q && true))) + one (z && (q && true))) ≤ calls + 1
accepted_counts number calls true q p l = let few : one (q && true) ≤ 1 = one_at_most (q && true) in omega (arith, l, few)
accepted_counts number calls false q p l = let few : one (p || (q && true)) ≤ 1 = one_at_most (p || (q && true)) in omega (arith, l, few)

commit_counts : (number calls : ℕ) (z p : Bool) → number + one p ≤ calls → number + (one (not z && p) + one (z && p)) ≤ calls
commit_counts number calls true true l = l
commit_counts number calls true false l = l
commit_counts number calls false true l = l
commit_counts number calls false false l = l

call_counts : (number : ℕ) (s : TransactionState) (call : Call) → number + one s.pending ≤ s.forest.calls
    → Counts number (transaction_after s (configs.Call call)) (commits s (configs.Call call))
call_counts number s call l = go (forest_after s.forest call) refl
  where
    go : (x : Result Forest Refusal) → forest_after s.forest call ≡ x
        → number + (one (not (s.depth == 0) && (s.pending || (not (is_quiet call) && is_ok x))) + one ((s.depth == 0) && (not (is_quiet call) && is_ok x)))
        ≤ (left_by s.forest x).calls
    go (Err why) e = refused_counts number s.forest.calls (s.depth == 0) (not (is_quiet call)) s.pending l
    go (Ok f) e = subst (λ (n : ℕ). number + (one (not (s.depth == 0) && (s.pending || (not (is_quiet call) && true)))
        + one ((s.depth == 0) && (not (is_quiet call) && true))) ≤ n) (sym (counted_after s.forest f call e))
        (accepted_counts number s.forest.calls (s.depth == 0) (not (is_quiet call)) s.pending l)

counts : (number : ℕ) (s : TransactionState) (c : Config) → number + one s.pending ≤ s.forest.calls → Counts number (transaction_after s c) (commits s c)
counts number s (configs.Call call) l = call_counts number s call l
counts number s configs.Commit l = commit_counts number s.forest.calls (s.depth == 1) s.pending l
counts number s _ l = omega (arith, l)

-- a private event goes on so
few_after_config : (number : ℕ) (d : Desk) (c : Config) (m : Desk) (answer : Result Applied Refusal) → d.due ≡ false → FewPublishes number d
    → Tells d c m answer → FewPublishes number m
few_after_config number d c m (Err why) off l t =
    subst (λ (z : TransactionState × Bool). Counts number z.0 z.1) (λ i. (sym t.0 i, sym t.1 i))
    (subst (λ (b : Bool). number + (one d.pending + one b) ≤ d.forest.calls) off l)
few_after_config number d c m (Ok applied) off l t =
    subst (λ (z : TransactionState × Bool). Counts number z.0 z.1) (λ i. (sym t.0 i, sym t.1 i))
    (counts number (transaction d.forest d.depth d.pending) c
    (let k : number + (one d.pending + one false) ≤ d.forest.calls = subst (λ (b : Bool). number + (one d.pending + one b) ≤ d.forest.calls) off l in
    omega (arith, k)))

-- so does every other event

few_after : (w : World) → Sound w → FewPublishes w.writer.generations.current w.writer.desk → (e : Event) → possible w e ≡ true
    → FewPublishes (world_after w e).writer.generations.current (world_after w e).writer.desk
few_after w k l events.Publish may =
    let d : Desk = w.writer.desk in
    let due : w.writer.generations.current + (one d.pending + one true) ≤ d.forest.calls =
    subst (λ (b : Bool). w.writer.generations.current + (one d.pending + one b) ≤ d.forest.calls) (and_parts _ _ may).0 l in
    omega (arith, due)
few_after w k l (events.Config c) may =
    let d : Desk = w.writer.desk in
    let rest = and_parts _ _ (and_parts _ _ may).0 in
    let off : d.due ≡ false = not-true d.due rest.0 in
    few_after_config w.writer.generations.current d c (configured w.writer.generations d c).desk (configured w.writer.generations d c).answer off l
    (outcome w.writer.generations d k.holds.sound off (nothing_unfilled d.unfilled rest.1) c).tells
few_after w k l _ may = l

few_from : (w : World) (xs : List PureEntry) → Sound w → FewPublishes w.writer.generations.current w.writer.desk → IsLegalFrom w xs
    → FewPublishes (after_entries w xs).writer.generations.current (after_entries w xs).writer.desk
few_from w [] k l m = l
few_from w (x ∷ xs) k l m = few_from (after_entry w x) xs
    (subst (λ r. Sound (after_telling w x.event (number_in r))) (sym m.1) (sound_after w k x.event m.0))
    (subst (λ r. let v = after_telling w x.event (number_in r) in FewPublishes v.writer.generations.current v.writer.desk) (sym m.1)
    (few_after w k l x.event m.0)) m.2

few_publishes : (w : World) → IsReached w → FewPublishes w.writer.generations.current w.writer.desk
few_publishes w r = subst (λ (v : World). FewPublishes v.writer.generations.current v.writer.desk) r.leads
    (few_from (opening r.pool_words r.passes) r.entries (sound r.pool_words r.passes [] tt) (omega arith) r.legal)

-- so 64 bits hold the numbers after the current one
pub numbers_fit : (w : World) → IsReached w → IsMade w.writer.desk.forest → w.writer.generations.current + 2 < 2 ^ 64
numbers_fit w r made =
    let few : w.writer.desk.forest.calls ≤ most_calls = (closed_made w.writer.desk.forest made).few_calls in
    let each : w.writer.generations.current + owed w.writer.desk ≤ w.writer.desk.forest.calls = few_publishes w r in
    omega (arith, few, each)
