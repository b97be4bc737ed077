-- A part of a phase, and one more order, or one more stage of what a pass does.
use Rattle.std.proofs.Common.{◌≡◌, ◌⊎◌, ℕ, zero, suc, ◌+◌, ◌<◌, ◌≤◌, Bool, true, false, eqb, cond, List, [], ◌∷◌, ◌++◌, length, map, filter, flat_map}
use Rattle.std.proofs.Common.{refl, sym, ap, ◌∙◌, subst, arith, Some, if◌then◌else◌, append_assoc, append-nil, length-append, ne_eqb, eq-eqb}
use Rattle.std.proofs.Common.{le-leb, lt_of_lt_of_le, eqb-true, zero-le, inl, inr, ⊎_elim}
use Rattle.std.specs.Prelude.{nat_le, ◌||◌}
use Rattle.std.specs.List.{list_any, range_with_len}
use mathlib.Core.Logic.{dite}
use native.Mathlib.Decide.{ℕ_discrete}
use Rattle.mem_base.specs.map.PassIds.{PassId}
use Rattle.mem_base.specs.declared.machine.events.Event.{Event}
use Rattle.mem_base.specs.declared.machine.events.Event.TheVariants as events
use Rattle.mem_base.specs.declared.machine.events.Hand.TheVariants as hands
use Rattle.mem_base.specs.declared.machine.events.HistoryEntry.{HistoryEntry}
use Rattle.mem_base.specs.declared.machine.records.DeskEntry.{DeskEntry}
use Rattle.mem_base.specs.declared.machine.records.DeskOrder.{DeskOrder}
use Rattle.mem_base.specs.lists.Every.{Every}
use Rattle.mem_base.specs.map.Limits.{most_passes, notifier_count}
use Rattle.mem_base.specs.machine.Generations.{Generation, Generations}
use Rattle.mem_base.specs.machine.Reaps.{Writer}
use Rattle.mem_base.specs.machine.SharedHistory.{Shared, after_shared_entry, after_shared_entries, IsSharedLegalFrom, shared_opening}
use Rattle.mem_base.specs.machine.Actors.{actor_of, generations_published, own_entries}
use Rattle.mem_base.specs.machine.Turns.{Answered, WriterCall, turn, turns, entries_of_turn, is_writers, last_writer, writers_of}
use Rattle.mem_base.specs.machine.Records.{Clerk, Given, answered, call_of, entry_of, got_by, recorded, FitsDeskOrder}
use Rattle.mem_base.specs.script.Scripts.{Line}
use Rattle.mem_base.specs.script.RaceLines.{number_looked, number_published}
use Rattle.mem_base.specs.script.Race.{Phase, Stand, Course, actors_in, desk_number, lines_by, publishes_number, turns_in}
use Rattle.mem_base.proofs.EveryLaws.{every_push, weaker}
use Rattle.history_laws.proofs.NumberLaws.{sound}
use Rattle.history_laws.proofs.AppendLaws.{after_append, own_append}
use Rattle.end_laws.proofs.EndLaws.{turns_end_in}
use Rattle.end_laws.proofs.GoingOn.{turns_go_on}
use Rattle.race_laws.specs.SoFar.{HasFitting, HasTold, IsTold}
use Rattle.race_laws.specs.Stopped.{MayClose}
use Rattle.race_laws.proofs.GoesOn.{add_got, ordered_on}
use Rattle.turn_laws.proofs.TurnLists.{last_push}
use Rattle.race_laws.proofs.CourseLaws.{answered_push, clerks_same, got_more, got_same, recorded_push, turns_in_push}
use Rattle.race_laws.proofs.Closing.{may_close_on}
use Rattle.race_laws.proofs.EnterLaws.{more_published}
use Rattle.race_laws.proofs.MachineGoes.{AreOf, OrderGoes, Stands, only_passes, order_goes, shared_now, writer_now}
use Rattle.race_laws.proofs.NextNumbers.{next_above}
use Rattle.race_laws.proofs.Publishing.{looks_low, numbers_told, published_between}
use Rattle.std.proofs.lemmas.Bool.{or_left, or_right}

abbrev pub published_in : Stand → Course → List Generation
published_in s c = generations_published (s.seen ++ c.entries)

-- what came to pass in a part of a phase
pub record Part (pool : ℕ) (os : List Answered) (s : Stand) (phase : Phase) (c : Course) : Type 0 where
  pub stands : Stands pool (os ++ map answered c.given) (s.seen ++ c.entries)
  pub writer : writer_now pool (os ++ map answered c.given) ≡ last_writer s.writer (turns_in s c)
  pub own : writers_of c.entries ≡ flat_map entries_of_turn (turns_in s c)
  pub clerks : map (λ x. x.who) c.clerks ≡ actors_in phase
  pub closes : MayClose phase (recorded s.writer c.given) c.clerks
  pub told : HasTold (length (published_in s c)) c
  pub fits : HasFitting c

-- from one course to another only this actor did something
pub record Only (actor : ℕ) (c d : Course) : Type 0 where
  pub more : List HistoryEntry
  pub is : d.entries ≡ c.entries ++ more
  pub apart : (v : ℕ) → (v ≡ actor → ⊥) → own_entries (v + 1) more ≡ []
  pub got : (n : ℕ) → (n ≡ actor → ⊥) → got_by n d.clerks ≡ got_by n c.clerks

pub only_none : (actor : ℕ) (c : Course) → Only actor c c
only_none actor c = record { more = []; is = sym (append-nil c.entries); apart = λ v ne. refl; got = λ n ne. refl }

pub only_then : (actor : ℕ) (c d e : Course) → Only actor c d → Only actor d e → Only actor c e
only_then actor c d e h k = record {
  more = h.more ++ k.more;
  is = k.is ∙ ap (λ (xs : List HistoryEntry). xs ++ k.more) h.is ∙ append_assoc c.entries h.more k.more;
  apart = λ v ne. own_append (v + 1) h.more k.more ∙ (λ i. h.apart v ne i ++ k.apart v ne i);
  got = λ n ne. k.got n ne ∙ h.got n ne;
}

-- entries of the writer are none of a pass

pub writer_actor : (e : Event) → is_writers e ≡ true → actor_of e ≡ 0
writer_actor (events.Look v) h = absurd (grind arith)
writer_actor (events.Announce v) h = absurd (grind arith)
writer_actor (events.Enter v) h = absurd (grind arith)
writer_actor (events.Leave v) h = absurd (grind arith)
writer_actor (events.Mark v region client page) h = absurd (grind arith)
writer_actor (events.Word (hands.Pass v) c step) h = absurd (grind arith)
writer_actor _ h = refl

none_of_pass : (v : ℕ) (xs : List HistoryEntry) → own_entries (v + 1) (writers_of xs) ≡ []
none_of_pass v [] = refl
none_of_pass v (x ∷ xs) = go (is_writers x.event) refl (none_of_pass v xs)
  where
    other : (n : ℕ) → n ≡ 0 → n ≡ v + 1 → ⊥
    other n is same = omega (arith, is, same)

    go : (b : Bool) → is_writers x.event ≡ b → own_entries (v + 1) (writers_of xs) ≡ []
        → own_entries (v + 1) (cond b (x ∷ writers_of xs) (writers_of xs)) ≡ []
    go false is rest = rest
    go true is rest = ap (λ (b : Bool). if b then x ∷ own_entries (v + 1) (writers_of xs) else own_entries (v + 1) (writers_of xs))
        (ne_eqb (actor_of x.event) (v + 1) (other (actor_of x.event) (writer_actor x.event is)))
        ∙ rest

pub turn_apart : (w : Writer) (order : DeskOrder) (ns : List ℕ) (v : ℕ) → own_entries (v + 1) (entries_of_turn (turn w (call_of order) ns)) ≡ []
turn_apart w order ns v =
    let ys : List HistoryEntry = entries_of_turn (turn w (call_of order) ns) in
    let same : writers_of ys ≡ ys = ((turns_go_on w [] [] refl).turn (call_of order) ns).0 ∙ append-nil ys in
    ap (λ (zs : List HistoryEntry). own_entries (v + 1) zs) (sym same) ∙ none_of_pass v ys

-- who has a line has a clerk

in_range : (k a n : ℕ) → a ≤ n → n < a + k → list_any (λ (m : ℕ). eqb m n) (range_with_len a k) ≡ true
in_range zero a n low high = absurd (omega (arith, low, high))
in_range (suc k) a n low high = dite (ℕ_discrete a n)
    (λ same. or_left (eqb a n) (list_any (λ (m : ℕ). eqb m n) (range_with_len (a + 1) k)) (eq-eqb a n same))
    (λ other. or_right (eqb a n) (list_any (λ (m : ℕ). eqb m n) (range_with_len (a + 1) k))
    (in_range k (a + 1) n (next_above a n low (λ e. other (sym e))) (omega (arith, high))))

in_filter : (p : ℕ → Bool) (n : ℕ) (xs : List ℕ) → p n ≡ true → list_any (λ (m : ℕ). eqb m n) xs ≡ true → list_any (λ (m : ℕ). eqb m n) (filter p xs) ≡ true
in_filter p n [] h k = k
in_filter p n (x ∷ xs) h k = go (eqb x n) refl k (in_filter p n xs h)
  where
    keep : (b : Bool) → list_any (λ (m : ℕ). eqb m n) (filter p xs) ≡ true → list_any (λ (m : ℕ). eqb m n) (cond b (x ∷ filter p xs) (filter p xs)) ≡ true
    keep true e = or_right (eqb x n) (list_any (λ (m : ℕ). eqb m n) (filter p xs)) e
    keep false e = e

    go : (b : Bool) → eqb x n ≡ b → (b || list_any (λ (m : ℕ). eqb m n) xs) ≡ true
        → (list_any (λ (m : ℕ). eqb m n) xs ≡ true → list_any (λ (m : ℕ). eqb m n) (filter p xs) ≡ true)
        → list_any (λ (m : ℕ). eqb m n) (cond (p x) (x ∷ filter p xs) (filter p xs)) ≡ true
    go true is k rest =
        let same : p x ≡ true = ap p (eqb-true x n is) ∙ h in
        ap (λ (b : Bool). list_any (λ (m : ℕ). eqb m n) (cond b (x ∷ filter p xs) (filter p xs))) same
        ∙ or_left (eqb x n) (list_any (λ (m : ℕ). eqb m n) (filter p xs)) is
    go false is k rest = keep (p x) (rest k)

any_who : (cs : List Clerk) (n : ℕ) → list_any (λ (c : Clerk). eqb c.who n) cs ≡ list_any (λ (m : ℕ). eqb m n) (map (λ (c : Clerk). c.who) cs)
any_who [] n = refl
any_who (c ∷ cs) n = ap (λ (b : Bool). eqb c.who n || b) (any_who cs n)

pub has_clerk : (phase : Phase) (cs : List Clerk) (who : ℕ) (front : List Line) (line : Line) (left : List Line)
    → map (λ (c : Clerk). c.who) cs ≡ actors_in phase
    → (who ≡ desk_number) ⊎ (who < most_passes) → lines_by who phase ≡ front ++ line ∷ left → list_any (λ (c : Clerk). eqb c.who who) cs ≡ true
has_clerk phase cs who front line left is one lines =
    let long = length-append front (line ∷ left) in
    let some : 1 ≤ length (lines_by who phase) = (let same : length (lines_by who phase) ≡ length (front ++ line ∷ left) = ap length lines in omega
    (arith, same, long)) in
    any_who cs who ∙ ap (λ (ns : List ℕ). list_any (λ (m : ℕ). eqb m who) ns) is
    ∙ in_filter (λ (n : ℕ). nat_le 1 (length (lines_by n phase))) who (desk_number ∷ range_with_len 0 most_passes)
    (le-leb 1 (length (lines_by who phase)) some)
    (⊎_elim (λ (e : who ≡ desk_number). or_left (eqb desk_number who) (list_any
    (λ (m : ℕ). eqb m who) (range_with_len 0 most_passes)) (eq-eqb desk_number who (sym e)))
    (λ (l : who < most_passes). or_right (eqb desk_number who) (list_any
    (λ (m : ℕ). eqb m who) (range_with_len 0 most_passes)) (in_range most_passes 0 who zero-le l)) one)

-- one more order

pub legal_rest : (xs ys : List HistoryEntry) (s : Shared) → IsSharedLegalFrom s (xs ++ ys) → IsSharedLegalFrom (after_shared_entries s xs) ys
legal_rest [] ys s l = l
legal_rest (x ∷ xs) ys s l = legal_rest xs ys (after_shared_entry s x) l.2

-- what an actor that gave an order knows after it
pub record OrderOn (pool : ℕ) (os : List Answered) (s : Stand) (phase : Phase) (c : Course) (who : ℕ) (order : DeskOrder) : Type 0 where
  pub course : Course
  pub part : Part pool os s phase course
  pub only : Only who c course
  pub apart : (v : ℕ) → own_entries (v + 1) only.more ≡ []
  pub entry : DeskEntry
  pub asked : entry.order ≡ order
  pub got : got_by who course.clerks ≡ got_by who c.clerks ++ entry ∷ []
  pub low : number_looked entry.answer < length (published_in s course)
  pub publishes : (number : ℕ) → number_published entry.answer ≡ Some number → list_any (publishes_number number) only.more ≡ true

pub order_on : (pool : ℕ) (os : List Answered) (s : Stand) (phase : Phase) (c : Course) (who : ℕ) (order : DeskOrder) → Part pool os s phase c
    → list_any (λ (x : Clerk). eqb x.who who) c.clerks ≡ true → FitsDeskOrder order → OrderOn pool os s phase c who order
order_on pool os s phase c who order part there fits =
    let before : List Answered = os ++ map answered c.given in
    let xs : List HistoryEntry = s.seen ++ c.entries in
    let g : OrderGoes pool before xs (call_of order) = order_goes pool before xs part.stands order fits in
    let r : List ℕ = g.replies in
    let given : Given = record { who = who; order = order; replies = r } in
    let w : Writer = last_writer s.writer (turns_in s c) in
    let t : WriterCall = turn w (call_of order) r in
    let ys : List HistoryEntry = entries_of_turn t in
    let e : DeskEntry = entry_of w given t in
    let d : Course = ordered_on s c who order r in
    let orders : before ++ (call_of order, r) ∷ [] ≡ os ++ map answered d.given =
    append_assoc os (map answered c.given) ((call_of order, r) ∷ []) ∙ ap (λ (ps : List Answered). os ++ ps) (sym (answered_push c.given given)) in
    let turned : xs ++ entries_of_turn (turn (writer_now pool before) (call_of order) r) ≡ xs ++ ys =
    ap (λ (z : Writer). xs ++ entries_of_turn (turn z (call_of order) r)) part.writer in
    let history : xs ++ ys ≡ s.seen ++ d.entries = append_assoc s.seen c.entries ys in
    let next : Stands pool (os ++ map answered d.given) (s.seen ++ d.entries) =
    subst (λ (z : List Answered × List HistoryEntry). Stands pool z.0 z.1) (λ i. (orders i, (turned ∙ history) i)) g.next in
    let own = ((turns_go_on s.writer (map answered c.given) c.entries part.own).turn (call_of order) r).0 in
    let grown = more_published xs ys in
    let longer : length (generations_published xs) ≤ length (published_in s d) =
    (let a : length (published_in s d) ≡ length (generations_published xs ++ grown.0) = ap length (ap generations_published (sym history) ∙ grown.1) in
    let b = length-append (generations_published xs) grown.0 in omega (arith, a, b)) in
    let same_numbers : (shared_now pool xs).generations ≡ w.generations =
    (turns_end_in pool most_passes before xs part.stands.legal part.stands.same).generations ∙ ap (λ (z : Writer). z.generations) part.writer in
    let counted = (sound (pool + notifier_count) most_passes xs part.stands.legal).counted in
    let current : (shared_now pool xs).generations.current ≡ w.generations.current = ap (λ (z : Generations). z.current) same_numbers in
    let looked = looks_low w order r in
    let low : number_looked e.answer < length (published_in s d) = omega (arith, looked, current, counted, longer) in
    let desk_same : (who ≡ desk_number) ⊎ (who ≡ desk_number → ⊥) = dite (ℕ_discrete who desk_number) inl inr in
    let old = weaker (IsTold (length (published_in s c))) (IsTold (length (published_in s d)))
    (λ z h. lt_of_lt_of_le h longer) (got_by desk_number c.clerks) part.told in
    let legal_all = subst (λ (zs : List HistoryEntry). IsSharedLegalFrom (shared_opening (pool + notifier_count) most_passes) zs) turned g.next.legal in
    let legal_turn : IsSharedLegalFrom (shared_now pool xs) ys = legal_rest xs ys (shared_opening (pool + notifier_count) most_passes) legal_all in
    let after_same : (after_shared_entries (shared_now pool xs) ys).generations ≡ t.writer.generations =
    ap (λ (z : Shared). z.generations) (sym (after_append xs ys (shared_opening (pool + notifier_count) most_passes))
    ∙ ap (λ (zs : List HistoryEntry). shared_now pool zs) (sym turned))
    ∙ (turns_end_in pool most_passes (before ++ (call_of order, r) ∷ []) (xs ++ entries_of_turn (turn (writer_now pool before)
    (call_of order) r)) g.next.legal g.next.same).generations
    ∙ ap (λ (z : Writer). z.generations) g.writer ∙ ap (λ (z : Writer). (turn z (call_of order) r).writer.generations) part.writer in
    let after_current : (after_shared_entries (shared_now pool xs) ys).generations.current ≡ t.writer.generations.current = ap
    (λ (z : Generations). z.current) after_same in
    record {
      course = d;
      part = record {
        stands = next;
        writer = ap (λ (ps : List Answered). writer_now pool ps) (sym orders) ∙ g.writer
            ∙ ap (λ (z : Writer). (turn z (call_of order) r).writer) part.writer
            ∙ sym (ap (λ (ts : List WriterCall). last_writer s.writer ts) (turns_in_push s c who order r) ∙ last_push s.writer (turns_in s c) t);
        own = own ∙ ap (λ (ps : List Answered). flat_map entries_of_turn (turns s.writer ps)) (sym (answered_push c.given given));
        clerks = clerks_same c.clerks who e ∙ part.clerks;
        closes = subst (λ (es : List DeskEntry). MayClose phase es (add_got who e c.clerks)) (sym (recorded_push s.writer c.given given))
            (may_close_on phase (recorded s.writer c.given) e c.clerks part.closes there);
        told = ⊎_elim (λ (is : who ≡ desk_number).
            subst (λ (n : ℕ). Every (IsTold (length (published_in s d))) (got_by n d.clerks)) is
            (subst (λ (es : List DeskEntry). Every (IsTold (length (published_in s d))) es) (sym (got_more c.clerks who e there))
            (every_push (IsTold (length (published_in s d))) (got_by who c.clerks) e
            (subst (λ (n : ℕ). Every (IsTold (length (published_in s d))) (got_by n c.clerks)) (sym is) old) low)))
            (λ (ne : who ≡ desk_number → ⊥).
            subst (λ (es : List DeskEntry). Every (IsTold (length (published_in s d))) es) (sym (got_same c.clerks who desk_number e
            (ne_eqb who desk_number ne))) old)
            desk_same;
        fits = every_push (λ g. FitsDeskOrder g.order) c.given given part.fits fits;
      };
      only = record {
        more = ys;
        is = refl;
        apart = λ v ne. turn_apart w order r v;
        got = λ n ne. got_same c.clerks who n e (ne_eqb who n (λ same. ne (sym same)));
      };
      apart = λ v. turn_apart w order r v;
      entry = e;
      asked = refl;
      got = got_more c.clerks who e there;
      low = low;
      publishes = λ number is. let n = numbers_told w order r number is in
          let above = n.above in let now = n.now in
          published_between ys (shared_now pool xs) number legal_turn (omega (arith, above, current)) (omega (arith, now, after_current));
    }

-- one more stage of what a pass does

pub own_mine : (pass : PassId) (ys : List HistoryEntry) → AreOf pass ys → own_entries (pass.0 + 1) ys ≡ ys
own_mine pass [] h = refl
own_mine pass (y ∷ ys) h =
    ap (λ (b : Bool). if b then y ∷ own_entries (pass.0 + 1) ys else own_entries (pass.0 + 1) ys) (eq-eqb (actor_of y.event) (pass.0 + 1) h.0.0)
    ∙ ap (λ (zs : List HistoryEntry). y ∷ zs) (own_mine pass ys h.1)

pub own_apart : (pass : PassId) (ys : List HistoryEntry) (v : ℕ) → AreOf pass ys → (v ≡ pass.0 → ⊥) → own_entries (v + 1) ys ≡ []
own_apart pass [] v h ne = refl
own_apart pass (y ∷ ys) v h ne =
    ap (λ (b : Bool). if b then y ∷ own_entries (v + 1) ys else own_entries (v + 1) ys)
    (ne_eqb (actor_of y.event) (v + 1) (λ same. ne (let e : v + 1 ≡ pass.0 + 1 = sym same ∙ h.0.0 in let f : v ≡ pass.0 = omega (arith, e) in f)))
    ∙ own_apart pass ys v h.1 ne

abbrev pub course_on : Course → List HistoryEntry → Course
course_on c ys = record { given = c.given; clerks = c.clerks; differs = c.differs; entries = c.entries ++ ys }

pub pass_on : (pool : ℕ) (os : List Answered) (s : Stand) (phase : Phase) (c : Course) (pass : PassId) (ys : List HistoryEntry) → Part pool os s phase c
    → AreOf pass ys → Stands pool (os ++ map answered c.given) ((s.seen ++ c.entries) ++ ys) → Part pool os s phase (course_on c ys)
pass_on pool os s phase c pass ys part mine next =
    let history = append_assoc s.seen c.entries ys in
    let xs : List HistoryEntry = s.seen ++ c.entries in
    let grown = more_published xs ys in
    let longer : length (published_in s c) ≤ length (published_in s (course_on c ys)) =
    (let a : length (published_in s (course_on c ys)) ≡ length (generations_published xs ++ grown.0) = ap length (ap generations_published (sym history)
    ∙ grown.1) in
    let b = length-append (generations_published xs) grown.0 in omega (arith, a, b)) in record {
      stands = subst (λ (zs : List HistoryEntry). Stands pool (os ++ map answered c.given) zs) history next;
      writer = part.writer;
      own = (turns_go_on s.writer (map answered c.given) c.entries part.own).passes ys (only_passes pass ys mine);
      clerks = part.clerks;
      closes = part.closes;
      told = weaker (IsTold (length (published_in s c))) (IsTold (length (published_in s (course_on c ys))))
          (λ z h. lt_of_lt_of_le h longer) (got_by desk_number c.clerks) part.told;
      fits = part.fits;
    }
