-- Passes that leave and are taken in.
use Rattle.std.proofs.Common.{◌≡◌, ℕ, suc, ◌+◌, ◌<◌, Bool, false, not, List, [], ◌∷◌, ◌++◌, length, get_or, set, replicate, Option, Some, None}
use Rattle.std.proofs.Common.{refl, sym, ap, subst, ◌∙◌, arith, append-nil}
use mathlib.Core.List.{IsPrefix}
use Rattle.std.specs.Prelude.{IfSome, is_some, option_map}
use Rattle.std.proofs.lemmas.List.{append_cancel_left, length-append}
use Rattle.std.proofs.Math.ListN.{get_or-append}
use Rattle.std.proofs.Math.Seq.{get_or-append_seam}
use borrow.Author.Count.{below_more}
use Rattle.mem_base.specs.map.PassIds.{PassId}
use Rattle.mem_base.specs.declared.machine.events.HistoryEntry.{HistoryEntry}
use Rattle.mem_base.specs.map.Limits.{most_passes}
use Rattle.mem_base.specs.machine.Passes.{pass_id}
use Rattle.mem_base.specs.machine.Composites.{leaves, leaves_unless}
use Rattle.mem_base.specs.machine.Actors.{own_entries}
use Rattle.mem_base.specs.machine.PassTurns.{entries_of}
use Rattle.mem_base.specs.script.Race.{LeavesLast, pass_state}
use Rattle.history_laws.proofs.AppendLaws.{own_append}
use Rattle.history_laws.proofs.OwnLaws.{own_writers}
use Rattle.race_laws.proofs.PhaseEnds.{every_pass}
use Rattle.generation.specs.Published.{Published}
use Rattle.epoch_rule.specs.Rule.{IsLegal}
use Rattle.epoch_rule.specs.Values.{PassValue, WriterValue}
use Rattle.epoch_rule.specs.Wrote.{Made}
use Rattle.epoch_rule.proofs.SeatSteps.{set_false}
use Rattle.vcpu_pass.specs.Calls.{HasLeft, is_entered}
use Rattle.vcpu_pass.specs.Entries.{replies_to_leave}
use Rattle.race_inside.proofs.HandedOn.{ConfigState, RecordState, AreReady}
use Rattle.race_run.specs.Ends.{AreLeaves, HasClosed, HasComeIn, last_of}

-- a pass that left where it was entered: its last entries
pub record Leaves (v w : PassValue Published) : Type 0 where
  pub cabinet : w.cabinet ≡ v.cabinet
  pub number : w.number ≡ v.number
  pub own : own_entries (v.number + 1) w.seen ≡ own_entries (v.number + 1) v.seen ++ last_of v

pub leaves_by : (v w : PassValue Published) → HasLeft v w → Leaves v w
leaves_by v w h = go v.edition refl h.1 h.2
  where
    go : (e : Option Published) → v.edition ≡ e → IfSome e (λ g. Made v (entries_of [] (leaves (pass_id v.number)) replies_to_leave) w)
        → (e ≡ None → w ≡ v) → Leaves v w
    go (Some g) is made still = record {
      cabinet = made.cabinet;
      number = made.number;
      own = made.wrote.events ∙ ap (λ (o : Option Published). own_entries (v.number + 1) v.seen
          ++ entries_of [] (leaves_unless (not (is_some o)) (pass_id v.number)) []) (sym is);
    }
    go None is made still = record {
      cabinet = ap (λ (x : PassValue Published). x.cabinet) (still refl);
      number = ap (λ (x : PassValue Published). x.number) (still refl);
      own = ap (λ (x : PassValue Published). own_entries (v.number + 1) x.seen) (still refl)
          ∙ sym (append-nil (own_entries (v.number + 1) v.seen))
          ∙ ap (λ (o : Option Published). own_entries (v.number + 1) v.seen ++ entries_of [] (leaves_unless (not (is_some o)) (pass_id v.number)) [])
          (sym is);
    }

-- The last virtual CPU of a list, and those before it

pub last_number : (all rest : List (PassValue Published)) (x : PassValue Published) → all ≡ rest ++ x ∷ [] → length all ≡ length rest + 1
last_number all rest x is = ap length is ∙ length-append rest (x ∷ [])

pub last_at : (all rest : List (PassValue Published)) (x d : PassValue Published) → all ≡ rest ++ x ∷ [] → get_or all (length rest) d ≡ x
last_at all rest x d is = ap (λ (xs : List (PassValue Published)). get_or xs (length rest) d) is ∙ get_or-append_seam rest x [] d

pub before_at : (all rest : List (PassValue Published)) (x d : PassValue Published) (k : ℕ) → all ≡ rest ++ x ∷ [] → k < length rest
    → get_or all k d ≡ get_or rest k d
before_at all rest x d k is near = ap (λ (xs : List (PassValue Published)). get_or xs k d) is ∙ get_or-append rest (x ∷ []) d k near

-- the last of them has its number, and its pass is out no more
pub record LastIn (rest : List (PassValue Published)) (x : PassValue Published) (out : List Bool) : Type 0 where
  pub numbered : x.number ≡ length rest
  pub inside : get_or out (length rest) false ≡ false

pub last_in : (all rest : List (PassValue Published)) (x p : PassValue Published) (out taken : List Bool) → all ≡ rest ++ x ∷ []
    → ((k : ℕ) (d : PassValue Published) → k < length all → (get_or all k d).number ≡ k) → p.number ≡ x.number
    → taken ≡ set out p.number false → LastIn rest x taken
last_in all rest x p out taken is numbers same set_is =
    let near : length rest < length all = let long = last_number all rest x is in omega (arith, long) in
    let numbered : x.number ≡ length rest = subst (λ (y : PassValue Published). y.number ≡ length rest) (last_at all rest x x is) (numbers (length rest) x near) in
    record {
      numbered = numbered;
      inside = ap (λ (bs : List Bool). get_or bs (length rest) false) (set_is ∙ ap (λ (n : ℕ). set out n false) (same ∙ numbered)) ∙ set_false out (length rest);
    }

-- those that are in
pub in_all : (all rest : List (PassValue Published)) (x : PassValue Published) (taken now : List Bool) → all ≡ rest ++ x ∷ []
    → LastIn rest x taken → ((q : ℕ) → q < length rest → get_or now q false ≡ false)
    → ((q : ℕ) → get_or taken q false ≡ false → get_or now q false ≡ false)
    → (q : ℕ) → q < length all → get_or now q false ≡ false
in_all all rest x taken now is last before still q near =
    below_more (λ (n : ℕ). get_or now n false ≡ false) (length rest) before (still (length rest) last.inside) q
    (let long = last_number all rest x is in omega (arith, near, long))

-- the last came in, and then those before it
pub came_all : (all rest : List (PassValue Published)) (x p : PassValue Published) (taken now : List HistoryEntry) → all ≡ rest ++ x ∷ []
    → x.number ≡ length rest → Leaves x p → own_entries (p.number + 1) taken ≡ own_entries (p.number + 1) p.seen
    → own_entries (length rest + 1) now ≡ own_entries (length rest + 1) taken
    → ((k : ℕ) (d : PassValue Published) → k < length rest → HasComeIn now (get_or rest k d))
    → (k : ℕ) (d : PassValue Published) → k < length all → HasComeIn now (get_or all k d)
came_all all rest x p taken now is numbered left brought kept came k d near =
    below_more (λ (n : ℕ). HasComeIn now (get_or all n d)) (length rest)
    (λ n l. subst (λ (y : PassValue Published). HasComeIn now y) (sym (before_at all rest x d n is l)) (came n d l))
    (subst (λ (y : PassValue Published). HasComeIn now y) (sym (last_at all rest x d is)) last) k
    (let long = last_number all rest x is in omega (arith, near, long))
  where
    last : HasComeIn now x
    last =
        subst (λ (n : ℕ). own_entries (n + 1) now ≡ own_entries (n + 1) taken) (sym numbered) kept
        ∙ subst (λ (n : ℕ). own_entries (n + 1) taken ≡ own_entries (n + 1) p.seen) left.number brought
        ∙ left.own

-- All have come in

all_false : (bs : List Bool) → ((q : ℕ) → q < length bs → get_or bs q false ≡ false) → bs ≡ replicate (length bs) false
all_false [] each = refl
all_false (b ∷ bs) each = λ i. each 0 (omega arith) i ∷ all_false bs (λ q l. each (suc q) (omega (arith, l))) i

pub none_out : (bs : List Bool) → length bs ≡ most_passes → ((q : ℕ) → q < most_passes → get_or bs q false ≡ false) → bs ≡ replicate most_passes false
none_out bs long each =
    all_false bs (λ q l. each q (omega (arith, l, long))) ∙ ap (λ (n : ℕ). replicate n false) long

some_map : {A B : Type 0} (f : A → B) (o : Option A) → is_some (option_map f o) ≡ is_some o
some_map f (Some x) = refl
some_map f None = refl

-- what is left of the history is the last entries of the passes
pub are_leaves : (r : RecordState) (cpus : List (PassValue Published)) (now last : List HistoryEntry) (d : PassValue Published) → AreReady r cpus
    → r.seat.seen ++ last ≡ now → own_entries 0 now ≡ own_entries 0 r.seat.seen
    → ((k : ℕ) (e : PassValue Published) → k < length cpus → HasComeIn now (get_or cpus k e)) → AreLeaves r.seat.seen last
are_leaves r cpus now last d ready whole writer came = record {
  each = every_pass (LeavesLast r.seat.seen last) one;
  rests = sym (own_writers last)
      ∙ append_cancel_left (own_entries 0 r.seat.seen) (own_entries 0 last) []
      (sym (own_append 0 r.seat.seen last) ∙ ap (own_entries 0) whole ∙ writer ∙ sym (append-nil (own_entries 0 r.seat.seen)));
}
  where
    one : (pass : PassId) → pass.0 < most_passes → LeavesLast r.seat.seen last pass
    one pass near =
        let v : PassValue Published = get_or cpus pass.0 d in
        let inside : pass.0 < length cpus = subst (λ (n : ℕ). pass.0 < n) (sym ready.all) near in
        let at = ready.level pass.0 d near in
        let number : v.number ≡ pass.0 = at.0 in
        let seen : v.seen ≡ r.seat.seen = at.1 in
        let own : own_entries (pass.0 + 1) last ≡ last_of v = append_cancel_left (own_entries (pass.0 + 1) r.seat.seen) (own_entries (pass.0 + 1) last) (last_of v)
        (sym (own_append (pass.0 + 1) r.seat.seen last) ∙ ap (own_entries (pass.0 + 1)) whole
        ∙ subst (λ (n : ℕ). own_entries (n + 1) now ≡ own_entries (n + 1) v.seen ++ last_of v) number (came pass.0 d inside)
        ∙ ap (λ (xs : List HistoryEntry). own_entries (pass.0 + 1) xs ++ last_of v) seen) in
        let state : is_some (pass_state pass r.seat.seen).entered ≡ is_entered v =
        (λ i. is_some (pass_state (pass_id (sym number i)) (sym seen i)).entered)
        ∙ ap is_some (ready.inside pass.0 d inside) ∙ some_map (λ g. g.number) v.edition in
        own ∙ (λ i. entries_of [] (leaves_unless (not (sym state i)) (pass_id (number i))) [])

-- the desk after all have come in
pub closed : (v w : RecordState) (c : ConfigState) (cpus : List (PassValue Published)) → c.seat ≡ w.seat → c.part ≡ w.part → AreReady v cpus
    → w.seat.cabinet ≡ v.seat.cabinet → w.seat.sizes ≡ v.seat.sizes → w.part ≡ v.part → length w.seat.out ≡ length v.seat.out
    → length v.seat.out ≡ most_passes → IsLegal w.seat.sizes w.seat.seen → IsPrefix v.seat.seen w.seat.seen
    → own_entries 0 w.seat.seen ≡ own_entries 0 v.seat.seen
    → ((k : ℕ) (d : PassValue Published) → k < length cpus → HasComeIn w.seat.seen (get_or cpus k d))
    → ((q : ℕ) → q < length cpus → get_or w.seat.out q false ≡ false) → HasClosed v c
closed v w c cpus seat part ready cabinet sizes same_part long count legal begins writer came inside = record {
  cabinet = ap (λ (s : WriterValue). s.cabinet) seat ∙ cabinet;
  sizes = ap (λ (s : WriterValue). s.sizes) seat ∙ sizes;
  out = ap (λ (s : WriterValue). s.out) seat
      ∙ none_out w.seat.out (long ∙ count) (λ q near. inside q (subst (λ (n : ℕ). q < n) (sym ready.all) near));
  part = part ∙ same_part;
  legal = subst (λ (s : WriterValue). IsLegal s.sizes s.seen) (sym seat) legal;
  last = begins.0;
  whole = ap (λ (s : WriterValue). s.seen) seat ∙ sym begins.1;
  leaves = are_leaves v cpus w.seat.seen begins.0 some_cpu ready begins.1 writer came;
}
  where
    some_cpu : PassValue Published
    some_cpu = record { cabinet = v.seat.cabinet; number = 0; sizes = v.seat.sizes; seen = []; edition = None }
