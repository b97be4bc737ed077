-- The virtual CPUs take their places before a block.
use Rattle.std.proofs.Common.{◌≡◌, ℕ, ◌+◌, ◌<◌, ◌≤◌, zero, suc, Bool, true, false, List, [], ◌∷◌, ◌++◌, length, map, get_or, append-nil, append_assoc}
use Rattle.std.proofs.Common.{refl, sym, ap, subst, ◌∙◌, arith, All, Option, Some, None, if◌then◌else◌}
use Rattle.std.specs.Prelude.{nat_le, vec_capacity}
use Rattle.std.proofs.lemmas.List.{get_or_append_left, get_or_push, length-map, length_push}
use Rattle.mem_base.specs.lists.Every.{Every}
use Rattle.mem_base.proofs.EveryLaws.{every_push}
use Rattle.mem_base.specs.map.Limits.{most_passes}
use Rattle.mem_base.specs.script.Scripts.{Line}
use Rattle.mem_base.specs.script.Tasks.{Known}
use Rattle.mem_base.specs.script.Race.{actors_in, block, desk_number, lines_by}
use Rattle.generation.specs.Published.{Published}
use Rattle.epoch_rule.specs.Values.{PassValue}
use Rattle.race_block.proofs.HandedOn.{IsInItsGeneration}
use Rattle.desk_orders.specs.Records.{RecordState}
use Rattle.race_levels.specs.Ready.{AreReady}
use Rattle.race_block.specs.declared.blocks.BlockActor.{BlockActor}
use Rattle.race_block.specs.declared.blocks.BlockActor.TheVariants.{Desk, Pass, Gone}
use Rattle.race_block.specs.declared.passes.PassActor.{PassActor}
use Rattle.race_block.specs.declared.tasks.BlockLine.{BlockLine}
use Rattle.race_block.specs.Blocks.{CanAct}
use Rattle.race_block.specs.declared.tasks.OwnLine.{OwnLine}
use Rattle.race_block.specs.Desks.{line_meant, lines_meant}
use Rattle.race_block.specs.declared.tasks.PassLines.{PassLines}
use Rattle.race_block.specs.declared.tasks.PassLines.TheVariants.{Unresolved, Resolved}
use Rattle.race_block.specs.Lines.{AreFit, FitsLine}
use Rattle.race_block.specs.Resolving.{AreLinesBy, AreTasksOf, IsPassLine, copy_room}
use Rattle.race_phases.specs.Plain.{has_lines}
use Rattle.race_seats.specs.Starts.{AreAtStart, PassStarts}
use Rattle.race_seats.specs.Rooms.{AreWorksOf, IsPassRoomFor, IsWorkOf, acts}
use Rattle.race_seats.specs.Seats.{AreBusy, AreSeated, AreSeats, AreSeatsOf, GivesLines, HaveSeats, KeepsKnown, IsNewActor}
use Rattle.race_seats.specs.Seats.{IsSeatOf, SeatsDesk, SeatsPass, TakesSeat, acting, idle}
use Rattle.race_seats.specs.declared.rooms.Work.{Work}
use Rattle.race_seats.specs.declared.rooms.PassRoom.{PassRoom}
use Rattle.race_seats.specs.declared.seats.Seated.{Seated}
use Rattle.race_seats.proofs.SeatLists.{one_acts, one_waits, others_act, others_wait, seats_push, starts_push}

-- those of a runner stand at their numbers
pub ready_seats : (r : RecordState) (cpus : List (PassValue Published)) → AreReady r cpus → AreSeatsOf r cpus
ready_seats r cpus h p d near =
    let here : p < most_passes = let all = h.all in omega (arith, near, all) in record {
      number = (h.level p d here).0;
      level = (h.level p d here).1;
      own = h.own p d near;
      inside = h.inside p d near;
    }

-- the lines that a pass gets

given_lines : (k : Known) (lines : List Line) (who : ℕ) (known : Option Known) (work : Work) (own : PassLines) → KeepsKnown k lines known
    → IsWorkOf k lines who work → GivesLines known work.own.items work.tasks.items own → AreLinesBy k (lines_by who (block lines)) own
given_lines k lines who (Some kept) work (Unresolved ls names) keeps h g = (ap lines_meant g.0 ∙ h.own, g.1 ∙ keeps)
given_lines k lines who None work (Resolved xs) keeps h g =
    subst (λ (ys : List BlockLine). AreTasksOf k (lines_by who (block lines)) ys) (sym g) (h.tasks keeps).tasks
given_lines k lines who (Some kept) work (Resolved xs) keeps h g = absurd g
given_lines k lines who None work (Unresolved ls names) keeps h g = absurd g

given_fit : (k : Known) (lines : List Line) (who : ℕ) (known : Option Known) (work : Work) (own : PassLines) → KeepsKnown k lines known
    → IsWorkOf k lines who work → GivesLines known work.own.items work.tasks.items own → AreFit own
given_fit k lines who (Some kept) work (Unresolved ls names) keeps h g = subst (All IsPassLine) (sym g.0) h.fits
given_fit k lines who None work (Resolved xs) keeps h g = subst (All (FitsLine copy_room)) (sym g) (h.tasks keeps).fits
given_fit k lines who (Some kept) work (Resolved xs) keeps h g = absurd g
given_fit k lines who None work (Unresolved ls names) keeps h g = absurd g

-- an actor as it takes its place

new_starts : (k : Known) (lines : List Line) (r : RecordState) (who : ℕ) (known : Option Known) (cpu : PassValue Published) (work : Work) (a : PassActor)
    → who < most_passes → KeepsKnown k lines known → IsSeatOf r who cpu → IsWorkOf k lines who work → IsNewActor who known cpu work a
    → PassStarts k lines r.seat.seen who a × CanAct r.seat.cabinet (Pass a)
new_starts k lines r who known cpu work a near keeps s h n = (
  record {
    near = near;
    number = ap (λ (v : PassValue Published). v.number) n.cpu_is ∙ s.number;
    level = ap (λ (v : PassValue Published). v.seen) n.cpu_is ∙ s.level;
    clerk = n.clerk;
    lines_are = given_lines k lines who known work a.lines keeps h n.lines;
  },
  (
    record {
      inside = subst IsInItsGeneration (sym n.cpu_is) s.inside;
      room = n.room ∙ h.bounce;
      fits = given_fit k lines who known work a.lines keeps h n.lines;
      nothing = n.nothing;
    },
    ap (λ (v : PassValue Published). v.cabinet) n.cpu_is ∙ s.own,
  ),
)

pub none_seated : (k : Known) (lines : List Line) (r : RecordState) (n : ℕ) (olds : List BlockActor) (before : List (PassValue Published)) → n ≡ 0
    → HaveSeats k lines r n olds olds before before
none_seated k lines r n olds before none = subst (λ (m : ℕ). HaveSeats k lines r m olds olds before before) (sym none) record {
  actors = [];
  put = sym (append-nil olds);
  starts = tt;
  can = tt;
  others = [];
  aside = sym (append-nil before);
  wait = tt;
}

work_acts : (k : Known) (lines : List Line) (n : ℕ) (work : Work) → IsWorkOf k lines n work → has_lines (block lines) n ≡ acts work
work_acts k lines n work h = ap (nat_le 1) (ap length (sym h.own) ∙ length-map work.own.items line_meant)

-- which passes are busy, by what each has to do
busy_at : (k : Known) (lines : List Line) (n : ℕ) (works : List Work) (p : ℕ) (d : Bool) → p < length works
    → ((e : Work) → IsWorkOf k lines n (get_or works p e)) → get_or (map acts works) p d ≡ has_lines (block lines) n
busy_at k lines n [] p d near h = absurd (omega (arith, near))
busy_at k lines n (work ∷ works) zero d near h = sym (work_acts k lines n work (h work))
busy_at k lines n (work ∷ works) (suc p) d near h = busy_at k lines n works p d (omega (arith, near)) h

are_busy : (k : Known) (lines : List Line) (works : List Work) (busy : List Bool) → busy ≡ map acts works → AreWorksOf k lines works
    → AreBusy lines busy
are_busy k lines works busy is does p d near =
    let within : p < length works = let long = ap length is ∙ length-map works acts in omega (arith, near, long) in
    ap (λ (bs : List Bool). get_or bs p d) is ∙ busy_at k lines p works p d within (λ e. does p e within)

-- one pass more, by what it has to do
by_work : (k : Known) (lines : List Line) (r : RecordState) (n m : ℕ) (known : Option Known) (cpu : PassValue Published) (work : Work) (b : Bool)
    (olds mid news : List BlockActor) (before between after : List (PassValue Published)) → m ≡ n + 1 → n < most_passes
    → KeepsKnown k lines known → IsSeatOf r n cpu
    → IsWorkOf k lines n work → has_lines (block lines) n ≡ b → HaveSeats k lines r n olds mid before between
    → TakesSeat b n known cpu work mid news between after → HaveSeats k lines r m olds news before after
by_work k lines r n m known cpu work false olds mid news before between after more near keeps s has none h p = record {
  actors = h.actors;
  put = p.0 ∙ h.put;
  starts = subst (λ (whos : List ℕ). AreAtStart k lines r.seat.seen whos h.actors) (sym (others_act lines n m more none)) h.starts;
  can = h.can;
  others = h.others ++ cpu ∷ [];
  aside = p.1 ∙ ap (λ (xs : List (PassValue Published)). xs ++ cpu ∷ []) h.aside ∙ append_assoc before h.others (cpu ∷ []);
  wait = subst (λ (whos : List ℕ). AreSeats r whos (h.others ++ cpu ∷ [])) (sym (one_waits lines n m more none))
      (seats_push r (idle lines n) h.others n cpu h.wait s);
}
by_work k lines r n m known cpu work true olds mid news before between after more near keeps s has some h p =
    let a : PassActor = p.1 in
    let x = new_starts k lines r n known cpu work a near keeps s has p.3 in record {
      actors = h.actors ++ Pass a ∷ [];
      put = p.2 ∙ ap (λ (xs : List BlockActor). xs ++ Pass a ∷ []) h.put ∙ append_assoc olds h.actors (Pass a ∷ []);
      starts = subst (λ (whos : List ℕ). AreAtStart k lines r.seat.seen whos (h.actors ++ Pass a ∷ [])) (sym (one_acts lines n m more some))
          (starts_push k lines r.seat.seen (acting lines n) h.actors n (Pass a) h.starts x.0);
      can = every_push (CanAct r.seat.cabinet) h.actors (Pass a) h.can x.1;
      others = h.others;
      aside = p.0 ∙ h.aside;
      wait = subst (λ (whos : List ℕ). AreSeats r whos h.others) (sym (others_wait lines n m more some)) h.wait;
    }

pub one_seated : (k : Known) (lines : List Line) (r : RecordState) (cpus fewer : List (PassValue Published)) (works less : List Work)
    (known : Option Known) (cpu : PassValue Published) (work : Work) (who : ℕ) (olds mid news : List BlockActor)
    (before between after : List (PassValue Published)) → cpus ≡ fewer ++ cpu ∷ [] → works ≡ less ++ work ∷ [] → length works ≡ length cpus
    → length cpus ≤ most_passes → who ≡ length fewer
    → KeepsKnown k lines known → AreSeatsOf r cpus → AreWorksOf k lines works
    → (AreSeatsOf r fewer → AreWorksOf k lines less → HaveSeats k lines r (length fewer) olds mid before between)
    → SeatsPass who known cpu work mid news between after → HaveSeats k lines r (length cpus) olds news before after
one_seated k lines r cpus fewer works less known cpu work who olds mid news before between after c w same few is keeps seats does rest put =
    let long : length cpus ≡ length fewer + 1 = ap length c ∙ length_push fewer cpu in
    let wide : length works ≡ length less + 1 = ap length w ∙ length_push less work in
    let even : length less ≡ length fewer = omega (arith, long, wide, same) in
    let near : length fewer < most_passes = omega (arith, long, few) in
    let inside : length fewer < length cpus = omega (arith, long) in
    let within : length fewer < length works = omega (arith, wide, even) in
    let here : IsSeatOf r (length fewer) cpu = subst (IsSeatOf r (length fewer))
    (ap (λ (xs : List (PassValue Published)). get_or xs (length fewer) cpu) c ∙ get_or_push fewer cpu cpu (length fewer) refl)
    (seats (length fewer) cpu inside) in
    let todo : IsWorkOf k lines (length fewer) work = subst (IsWorkOf k lines (length fewer))
    (ap (λ (xs : List Work). get_or xs (length fewer) work) w ∙ get_or_push less work work (length fewer) even) (does (length fewer) work within) in
    let others : AreSeatsOf r fewer = λ p d l. subst (IsSeatOf r p)
    (ap (λ (xs : List (PassValue Published)). get_or xs p d) c ∙ get_or_append_left fewer (cpu ∷ []) d p l) (seats p d (omega (arith, l, long))) in
    let work_before : AreWorksOf k lines less = λ p d l. subst (IsWorkOf k lines p)
    (ap (λ (xs : List Work). get_or xs p d) w ∙ get_or_append_left less (work ∷ []) d p l) (does p d (omega (arith, l, wide))) in
    by_work k lines r (length fewer) (length cpus) known cpu work (acts work) olds mid news before between after long near keeps here todo
    (work_acts k lines (length fewer) work todo) (rest others work_before)
    (subst (λ (n : ℕ). SeatsPass n known cpu work mid news between after) is put)

-- whether the desk has lines, by its own
pub desk_acts : (lines : List Line) (own : List OwnLine) (n : ℕ) (b : Bool) → lines_meant own ≡ lines_by desk_number (block lines) → n ≡ length own
    → nat_le 1 n ≡ b → has_lines (block lines) desk_number ≡ b
desk_acts lines own n b is long some = ap (λ (ls : List Line). nat_le 1 (length ls)) (sym is) ∙ ap (nat_le 1) (length-map own line_meant ∙ sym long) ∙ some

-- all actors, the desk first

pub all_start : (k : Known) (lines : List Line) (r : RecordState) (keeps : Option Known) (front passes : List BlockActor) → SeatsDesk k lines keeps front
    → AreAtStart k lines r.seat.seen (acting lines most_passes) passes → AreAtStart k lines r.seat.seen (actors_in (block lines)) (front ++ passes)
all_start k lines r (Some x) [] passes h starts = subst (λ (whos : List ℕ). AreAtStart k lines r.seat.seen whos passes)
    (ap (λ (b : Bool). if b then desk_number ∷ acting lines most_passes else acting lines most_passes) (sym h.0)) starts
all_start k lines r None (Desk a ∷ []) passes h starts = subst (λ (whos : List ℕ). AreAtStart k lines r.seat.seen whos (Desk a ∷ passes))
    (ap (λ (b : Bool). if b then desk_number ∷ acting lines most_passes else acting lines most_passes) (sym h.0)) ((refl, h.1), starts)
all_start k lines r (Some x) (a ∷ front) passes h starts = absurd h
all_start k lines r None [] passes h starts = absurd h
all_start k lines r None (Desk a ∷ b ∷ front) passes h starts = absurd h
all_start k lines r None (Pass a ∷ front) passes h starts = absurd h
all_start k lines r None (Gone ∷ front) passes h starts = absurd h

pub all_can : (k : Known) (lines : List Line) (r : RecordState) (keeps : Option Known) (front passes : List BlockActor) → SeatsDesk k lines keeps front
    → Every (CanAct r.seat.cabinet) passes → Every (CanAct r.seat.cabinet) (front ++ passes)
all_can k lines r (Some x) [] passes h can = can
all_can k lines r None (Desk a ∷ []) passes h can = (h.2, can)
all_can k lines r (Some x) (a ∷ front) passes h can = absurd h
all_can k lines r None [] passes h can = absurd h
all_can k lines r None (Desk a ∷ b ∷ front) passes h can = absurd h
all_can k lines r None (Pass a ∷ front) passes h can = absurd h
all_can k lines r None (Gone ∷ front) passes h can = absurd h

-- the desk is one actor at most
pub desk_alone : (k : Known) (lines : List Line) (keeps : Option Known) (front : List BlockActor) → SeatsDesk k lines keeps front → length front ≤ 1
desk_alone k lines (Some x) [] h = omega arith
desk_alone k lines None (Desk a ∷ []) h = omega arith
desk_alone k lines (Some x) (a ∷ front) h = absurd h
desk_alone k lines None [] h = absurd h
desk_alone k lines None (Desk a ∷ b ∷ front) h = absurd h
desk_alone k lines None (Pass a ∷ front) h = absurd h
desk_alone k lines None (Gone ∷ front) h = absurd h

-- what is known, by the desk's seat
pub keeps_known : (k : Known) (lines : List Line) (keeps : Option Known) (front : List BlockActor) → SeatsDesk k lines keeps front
    → KeepsKnown k lines keeps
keeps_known k lines (Some x) [] h = h.1
keeps_known k lines None (Desk a ∷ []) h = h.0
keeps_known k lines (Some x) (a ∷ front) h = absurd h
keeps_known k lines None [] h = absurd h
keeps_known k lines None (Desk a ∷ b ∷ front) h = absurd h
keeps_known k lines None (Pass a ∷ front) h = absurd h
keeps_known k lines None (Gone ∷ front) h = absurd h

-- all have their places
pub all_seated : (k : Known) (lines : List Line) (r : RecordState) (cpus : List (PassValue Published)) (room : PassRoom) (s : Seated)
    (front : List BlockActor) → length cpus ≡ most_passes → IsPassRoomFor k lines room → SeatsDesk k lines s.known.now front
    → HaveSeats k lines r (length cpus) front s.actors.items room.waiting.items s.waiting.items → length s.actors.items ≤ length front + length cpus
    → s.busy ≡ room.busy → s.cpus ≡ room.cpus → s.clerks ≡ room.clerks → AreSeated k lines r s
all_seated k lines r cpus room s front all has desk h most same_busy same_cpus same_clerks =
    let one = desk_alone k lines s.known.now front desk in
    let fit = has.clerks_fit in
    let told : s.busy.items ≡ map acts room.works.items = ap (λ v. v.items) same_busy ∙ has.busy in
    let is : s.waiting.items ≡ h.others = h.aside ∙ ap (λ (xs : List (PassValue Published)). xs ++ h.others) has.no_waiting in record {
      front = front;
      passes = h.actors;
      actors = h.put;
      desk = desk;
      starts = subst (λ (n : ℕ). AreAtStart k lines r.seat.seen (acting lines n) h.actors) all h.starts;
      can = h.can;
      wait = subst (λ (z : ℕ × List (PassValue Published)). AreSeats r (idle lines z.0) z.1) (λ i. (all i, sym is i)) h.wait;
      all_busy = ap length told ∙ length-map room.works.items acts ∙ has.all_works;
      busy = are_busy k lines room.works.items s.busy.items told has.works;
      no_cpus = ap (λ v. v.items) same_cpus ∙ has.no_cpus;
      cpus_fit = subst (λ v. most_passes ≤ vec_capacity v) (sym same_cpus) has.cpus_fit;
      no_clerks = ap (λ v. v.items) same_clerks ∙ has.no_clerks;
      clerks_fit = subst (λ v. length s.actors.items ≤ vec_capacity v) (sym same_clerks) (omega (arith, most, one, all, fit));
    }
