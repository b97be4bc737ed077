-- The virtual CPUs stand in order of their numbers again after a block.
use Rattle.std.proofs.Common.{◌≡◌, ℕ, ◌+◌, ◌<◌, Bool, true, false, List, [], ◌∷◌, ◌++◌, length, get_or, append-nil, append_assoc}
use Rattle.std.proofs.Common.{refl, sym, ap, subst, ◌∙◌, arith, All, Option, Some, None, option_to_list}
use Rattle.std.specs.Prelude.{nat_le}
use Rattle.std.proofs.lemmas.List.{get_or_append_left, get_or_push, length_push, same_from_push}
use mathlib.Core.List.{IsPrefix}
use borrow.Author.Count.{below_more}
use Rattle.mem_base.specs.declared.machine.events.HistoryEntry.{HistoryEntry}
use Rattle.mem_base.specs.map.Limits.{most_passes}
use Rattle.mem_base.specs.script.Scripts.{Line}
use Rattle.mem_base.specs.script.Race.{block, lines_by}
use Rattle.mem_base.specs.machine.Actors.{own_entries}
use Rattle.mem_base.specs.machine.Passes as passes
use Rattle.generation.specs.Published.{Published}
use Rattle.epoch_rule.specs.Values.{PassValue}
use Rattle.race_block.proofs.HandedOn.{IsInItsGeneration}
use Rattle.desk_orders.specs.Records.{IsLater, RecordState}
use Rattle.race_levels.specs.Levels.{HasMet, IsHeard, IsOfCabinet}
use Rattle.race_levels.specs.Ready.{AreReady}
use Rattle.race_phases.specs.Plain.{has_lines}
use Rattle.race_block.specs.declared.blocks.BlockActor.{BlockActor}
use Rattle.race_block.specs.declared.blocks.BlockActor.TheVariants.{Desk, Pass, Gone}
use Rattle.race_seats.specs.Seats.{AllComeBack, AreActorsOf, AreBack, AreBusy, AreSeats, ComeBack, HaveSeatOf, IsBack, TakesCpu, acting, idle}
use Rattle.race_seats.proofs.SeatLists.{last_actor, last_seat, one_acts, one_waits, others_act, others_wait}
use Rattle.race_levels.proofs.ReadyLaws.{stays_inside}
use Rattle.mem_base.proofs.BoolLaws.{true_is_not_false}

-- what a pop takes
pub popped : {X : Type 0} (olds news front : List X) (got : Option X) (x : X) → olds ≡ news ++ option_to_list got
    → (got ≡ None → length olds ≡ 0) → olds ≡ front ++ x ∷ [] → (news ≡ front) × (got ≡ Some x)
popped olds news front None x is none ends =
    let long : length olds ≡ length front + 1 = ap length ends ∙ length_push front x in
    let empty : length olds ≡ 0 = none refl in
    absurd (omega (arith, long, empty))
popped olds news front (Some y) x is none ends =
    let same = same_from_push news front y x (sym is ∙ ends) in (same.0, ap Some same.1)

pub none_back : (lines : List Line) (n : ℕ) (olds rest : List BlockActor) (waiting before after : List (PassValue Published)) → n ≡ 0 → rest ≡ olds
    → after ≡ before → ComeBack lines n olds rest waiting before after
none_back lines n olds rest waiting before after none same still v w front passes is acts waits = record {
  rest_is = same ∙ is ∙ ap (λ (xs : List BlockActor). front ++ xs)
      (empty passes (subst (λ (m : ℕ). AreActorsOf w (acting lines m) passes) none acts)) ∙ append-nil front;
  back = [];
  put = still ∙ sym (append-nil before);
  count = sym none;
  each = λ p d l. absurd (omega (arith, l, none));
}
  where
    empty : (xs : List BlockActor) → AreActorsOf w [] xs → xs ≡ []
    empty [] h = refl
    empty (x ∷ xs) h = absurd h

-- one virtual CPU more
with_last : (lines : List Line) (v w : RecordState) (n m : ℕ) (front rest : List BlockActor) (before between after : List (PassValue Published))
    (x : PassValue Published) → m ≡ n + 1 → AreBack lines v w n front rest before between → IsBack (has_lines (block lines) n) v w n x
    → after ≡ between ++ x ∷ [] → AreBack lines v w m front rest before after
with_last lines v w n m front rest before between after x more h here put =
    let all : List (PassValue Published) = h.back ++ x ∷ [] in record {
      rest_is = h.rest_is;
      back = all;
      put = put ∙ ap (λ (xs : List (PassValue Published)). xs ++ x ∷ []) h.put ∙ append_assoc before h.back (x ∷ []);
      count = length_push h.back x ∙ ap (λ (l : ℕ). l + 1) h.count ∙ sym more;
      each = λ p d l. below_more (λ q. IsBack (has_lines (block lines) q) v w q (get_or all q d)) n
          (λ q near. subst (IsBack (has_lines (block lines) q) v w q)
          (sym (get_or_append_left h.back (x ∷ []) d q (let count = h.count in omega (arith, near, count)))) (h.each q d near))
          (subst (IsBack (has_lines (block lines) n) v w n) (sym (get_or_push h.back x d n h.count)) here) p (omega (arith, l, more));
    }

pub one_back : (acts : Bool) (lines : List Line) (n m : ℕ) (olds mid rest : List BlockActor) (waiting fewer before between after : List (PassValue Published))
    (got : Option (PassValue Published)) → m ≡ n + 1 → has_lines (block lines) n ≡ acts → TakesCpu acts olds mid waiting fewer got
    → ComeBack lines n mid rest fewer before between → ((x : PassValue Published) → got ≡ Some x → after ≡ between ++ x ∷ [])
    → ComeBack lines m olds rest waiting before after
one_back true lines n m olds mid rest waiting fewer before between after got more is takes comes puts v w front passes all acts waits =
    let l = last_actor w (acting lines n) n passes
    (subst (λ (whos : List ℕ). AreActorsOf w whos passes) (one_acts lines n m more is) acts) in
    go l.last l.seat l.front (all ∙ ap (λ (xs : List BlockActor). front ++ xs) l.is ∙ sym (append_assoc front l.front (l.last ∷ []))) l.actors
  where
    go : (a : BlockActor) → HaveSeatOf w n a → (first : List BlockActor) → olds ≡ (front ++ first) ++ a ∷ [] → AreActorsOf w (acting lines n) first
        → AreBack lines v w m front rest before after
    go (Pass a) seat first ends others =
        let t = takes.1 (front ++ first) a ends in
        with_last lines v w n m front rest before between after a.vcpu more
        (comes v w front first t.0 others
        (subst (λ (z : List ℕ × List (PassValue Published)). AreSeats v z.0 z.1) (λ i. (others_wait lines n m more is i, sym takes.0 i)) waits))
        (subst (λ (b : Bool). IsBack b v w n a.vcpu) (sym is) seat) (puts a.vcpu t.1)
    go (Desk a) seat first ends others = absurd seat
    go Gone seat first ends others = absurd seat
one_back false lines n m olds mid rest waiting fewer before between after got more is takes comes puts v w front passes all acts waits =
    let l = last_seat v (idle lines n) n waiting (subst (λ (ps : List ℕ). AreSeats v ps waiting) (one_waits lines n m more is) waits) in
    let t = takes.1 l.front l.last l.is in
    with_last lines v w n m front rest before between after l.last more
    (comes v w front passes (takes.0 ∙ all) (subst (λ (whos : List ℕ). AreActorsOf w whos passes) (others_act lines n m more is) acts)
    (subst (λ (xs : List (PassValue Published)). AreSeats v (idle lines n) xs) (sym t.0) l.seats))
    (subst (λ (b : Bool). IsBack b v w n l.last) (sym is) l.seat) (puts l.last t.1)

-- the same by which passes are busy

pub none_come : (busy : List Bool) (olds rest : List BlockActor) (waiting before after : List (PassValue Published)) → length busy ≡ 0 → rest ≡ olds
    → after ≡ before → AllComeBack busy olds rest waiting before after
none_come busy olds rest waiting before after none same still lines are = none_back lines (length busy) olds rest waiting before after none same still

pub one_comes : (busy less : List Bool) (acts : Bool) (olds mid rest : List BlockActor) (waiting fewer before between after : List (PassValue Published))
    (got : Option (PassValue Published)) → busy ≡ less ++ acts ∷ [] → TakesCpu acts olds mid waiting fewer got
    → AllComeBack less mid rest fewer before between → ((x : PassValue Published) → got ≡ Some x → after ≡ between ++ x ∷ [])
    → AllComeBack busy olds rest waiting before after
one_comes busy less acts olds mid rest waiting fewer before between after got is takes comes puts lines are =
    let long : length busy ≡ length less + 1 = ap length is ∙ length_push less acts in
    let here : has_lines (block lines) (length less) ≡ acts = sym (are (length less) acts (omega (arith, long)))
    ∙ ap (λ (bs : List Bool). get_or bs (length less) acts) is ∙ get_or_push less acts acts (length less) refl in
    let others : AreBusy lines less = λ p d near. sym (get_or_append_left less (acts ∷ []) d p near) ∙ ap (λ (bs : List Bool). get_or bs p d) (sym is)
    ∙ are p d (omega (arith, near, long)) in
    one_back acts lines (length less) (length busy) olds mid rest waiting fewer before between after got long here takes (comes lines others) puts

-- All meet what the record has seen

back_own : (b : Bool) (v w : RecordState) (p : ℕ) (x : PassValue Published) → w.seat.cabinet ≡ v.seat.cabinet → IsBack b v w p x
    → IsOfCabinet w.seat.cabinet x
back_own true v w p x same h = h.own
back_own false v w p x same h = h.own ∙ sym same

back_heard : (b : Bool) (v w : RecordState) (p : ℕ) (x : PassValue Published) → IsPrefix v.seat.seen w.seat.seen → IsBack b v w p x
    → IsHeard w.seat.seen x
back_heard true v w p x begins h = ([], append-nil x.seen ∙ h.level)
back_heard false v w p x begins h = subst (λ (xs : List HistoryEntry). IsPrefix xs w.seat.seen) (sym h.level) begins

back_number : (b : Bool) (v w : RecordState) (p : ℕ) (x : PassValue Published) → IsBack b v w p x → x.number ≡ p
back_number true v w p x h = h.number
back_number false v w p x h = h.number

back_inside : (b : Bool) (v w : RecordState) (p : ℕ) (x : PassValue Published) → IsBack b v w p x → IsInItsGeneration x
back_inside true v w p x h = h.inside
back_inside false v w p x h = h.inside

-- all of them, once they have come back
pub record AllBack (lines : List Line) (v w : RecordState) (cpus : List (PassValue Published)) : Type 0 where
  pub all : length cpus ≡ most_passes
  pub each : (p : ℕ) (d : PassValue Published) → p < most_passes → IsBack (has_lines (block lines) p) v w p (get_or cpus p d)

pub all_back : (lines : List Line) (v w : RecordState) (front rest : List BlockActor) (before after : List (PassValue Published)) → before ≡ []
    → AreBack lines v w most_passes front rest before after → AllBack lines v w after
all_back lines v w front rest before after none h =
    let is : after ≡ h.back = h.put ∙ ap (λ (xs : List (PassValue Published)). xs ++ h.back) none in
    subst (AllBack lines v w) (sym is) (record { all = h.count; each = h.each })

pub all_own : (lines : List Line) (v w : RecordState) (cpus : List (PassValue Published)) → IsLater v w → AllBack lines v w cpus
    → All (IsOfCabinet w.seat.cabinet) cpus
all_own lines v w cpus later h p d near =
    let all = h.all in
    back_own (has_lines (block lines) p) v w p (get_or cpus p d) later.grew.cabinet (h.each p d (omega (arith, near, all)))

pub all_heard : (lines : List Line) (v w : RecordState) (cpus : List (PassValue Published)) → IsLater v w → AllBack lines v w cpus
    → All (IsHeard w.seat.seen) cpus
all_heard lines v w cpus later h p d near =
    let all = h.all in
    back_heard (has_lines (block lines) p) v w p (get_or cpus p d) later.grew.seen (h.each p d (omega (arith, near, all)))

pub all_ready : (lines : List Line) (v w : RecordState) (cpus after : List (PassValue Published)) → IsLater v w → AllBack lines v w cpus
    → length after ≡ length cpus
    → ((i : ℕ) (d : PassValue Published) → i < length cpus → HasMet w.seat.seen (get_or cpus i d) (get_or after i d)) → AreReady w after
all_ready lines v w cpus after later h same met =
    let all = h.all in
    let here : (p : ℕ) → p < length after → p < most_passes = λ p near. omega (arith, near, same, all) in
    let there : (p : ℕ) → p < most_passes → p < length cpus = λ p near. omega (arith, near, all) in record {
      all = same ∙ h.all;
      own = λ p d near. (met p d (there p (here p near))).cabinet ∙ all_own lines v w cpus later h p d (there p (here p near));
      level = λ p d near. (
        (met p d (there p near)).number ∙ back_number (has_lines (block lines) p) v w p (get_or cpus p d) (h.each p d near),
        (met p d (there p near)).seen_is,
      );
      inside = λ p d near. stays_inside w.seat.seen (get_or cpus p d) (get_or after p d) (met p d (there p (here p near)))
          (back_inside (has_lines (block lines) p) v w p (get_or cpus p d) (h.each p d (here p near)));
    }

-- a pass that is in no generation and has seen nothing
abbrev nobody : RecordState → PassValue Published
nobody w = record { cabinet = w.seat.cabinet; number = 0; sizes = w.seat.sizes; seen = []; edition = None }

-- a pass without lines made nothing
idle_rests : (lines : List Line) (v w : RecordState) (p : ℕ) (x y : PassValue Published) (b : Bool) → has_lines (block lines) p ≡ b → b ≡ false
    → IsBack b v w p x → HasMet w.seat.seen x y → own_entries (p + 1) w.seat.seen ≡ own_entries (p + 1) v.seat.seen
idle_rests lines v w p x y true is none h m = true_is_not_false true refl none
idle_rests lines v w p x y false is none h m =
    (λ i. own_entries (sym h.number i + 1) w.seat.seen) ∙ m.own ∙ (λ i. own_entries (h.number i + 1) (h.level i))

pub all_rest : (lines : List Line) (v w : RecordState) (cpus after : List (PassValue Published)) → AllBack lines v w cpus
    → ((i : ℕ) (d : PassValue Published) → i < length cpus → HasMet w.seat.seen (get_or cpus i d) (get_or after i d))
    → (p : ℕ) → p < most_passes → lines_by p (block lines) ≡ [] → own_entries (p + 1) w.seat.seen ≡ own_entries (p + 1) v.seat.seen
all_rest lines v w cpus after h met p near none =
    let all = h.all in
    let d : PassValue Published = nobody w in
    idle_rests lines v w p (get_or cpus p d) (get_or after p d) (has_lines (block lines) p) refl
    (ap (λ (ls : List Line). nat_le 1 (length ls)) none) (h.each p d near) (met p d (omega (arith, near, all)))
