-- A line outside the block is a phase: of the desk, or of one pass.
use Rattle.std.proofs.Common.{◌≡◌, ◌⊎◌, ℕ, zero, suc, ◌+◌, ◌<◌, ◌≤◌, Bool, true, false, cond, eqb, List, [], ◌∷◌, ◌++◌, length, map, filter, take, flat_map}
use Rattle.std.proofs.Common.{refl, sym, ap, ◌∙◌, subst, arith, Option, Some, None, if◌then◌else◌, append-nil, length-append, not, ◌||◌}
use Rattle.std.proofs.Common.{eq-eqb, ne_eqb, eqb-true, inl, inr, ⊎_elim, le-leb, zero-le, le_of_eq}
use Rattle.std.specs.Prelude.{nat_le}
use Rattle.std.specs.List.{range_with_len, before_first, position_or_len}
use mathlib.Core.Logic.{dite}
use native.Mathlib.Decide.{ℕ_discrete}
use Rattle.mem_base.specs.map.PassIds.{PassId}
use Rattle.mem_base.specs.declared.machine.events.HistoryEntry.{HistoryEntry}
use Rattle.mem_base.specs.declared.machine.records.DeskEntry.{DeskEntry}
use Rattle.mem_base.specs.declared.machine.records.DeskOrder.{DeskOrder}
use Rattle.mem_base.specs.lists.Every.{Every}
use Rattle.mem_base.specs.map.Limits.{most_passes}
use Rattle.mem_base.specs.machine.Passes.{pass_id}
use Rattle.mem_base.specs.machine.Generations.{Generation}
use Rattle.mem_base.specs.machine.Reaps.{Writer}
use Rattle.mem_base.specs.machine.Actors.{actor_of, own_entries}
use Rattle.mem_base.specs.machine.Turns.{entries_of_turn, is_writers, replies_of, turn, turns, writers_of}
use Rattle.mem_base.specs.machine.Records.{Closes, Given, answered, call_of, entries_by, entry_of, first_stray, got_by, recorded}
use Rattle.mem_base.specs.script.Spelling.{Text}
use Rattle.mem_base.specs.script.Scripts.{Line}
use Rattle.mem_base.specs.script.RaceLines.{DeskLine, PassLine, known_after, lines_of_desk, lines_of_pass, said_text}
use Rattle.mem_base.specs.script.Race.{Course, IsAfterPublish, IsPassPart, Phase, Stand, ActsAfterPublishes, actor_number, actors_in, alone, desk_number}
use Rattle.mem_base.specs.script.Race.{desk_part, lines_by, pass_part, pass_state, passes, publishes_number, stand_after}
use Rattle.history_laws.proofs.AppendLaws.{own_append}
use Rattle.end_laws.proofs.GoingOn.{turns_go_on}
use Rattle.turn_laws.proofs.TurnLists.{writers_append}
use Rattle.race_laws.specs.Outside.{DeskLineIsPhase, DeskLineStops, PassLineIsPhase, desk_course, desk_line_of, pass_course, pass_line_of}
use Rattle.race_laws.proofs.OutsideLaws.{record_tells}
use Rattle.race_laws.proofs.PhaseParts.{turn_apart, writer_actor}
use Rattle.race_laws.proofs.PassGoesOn.{count_before}
use Rattle.race_laws.proofs.Phases.{parts_text, parts_text_same}
use Rattle.race_laws.proofs.PhaseEnds.{every_pass}
use Rattle.race_laws.proofs.NextNumbers.{next_above}
use Rattle.race_laws.proofs.Actors.{lines_mine}

-- who has the line

lines_none : (line : Line) (who : ℕ) → (actor_number line.1 ≡ who → ⊥) → lines_by who (alone line) ≡ []
lines_none line who ne = ap (λ (b : Bool). cond b (line ∷ []) []) (ne_eqb (actor_number line.1) who ne)

has_line : (line : Line) (n : ℕ) → nat_le 1 (length (lines_by n (alone line))) ≡ eqb (actor_number line.1) n
has_line line n = go (eqb (actor_number line.1) n)
  where
    go : (b : Bool) → nat_le 1 (length (cond b (line ∷ []) [])) ≡ b
    go true = refl
    go false = refl

none_in_range : (a k s : ℕ) → (a < s) ⊎ (s + k ≤ a) → filter (λ (n : ℕ). eqb a n) (range_with_len s k) ≡ []
none_in_range a zero s h = refl
none_in_range a (suc k) s h =
    ap (λ (b : Bool). cond b (s ∷ filter (λ (n : ℕ). eqb a n) (range_with_len (s + 1) k)) (filter (λ (n : ℕ). eqb a n) (range_with_len (s + 1) k)))
    (ne_eqb a s (⊎_elim (λ (l : a < s). λ e. omega (arith, l, e)) (λ (l : s + suc k ≤ a). λ e. omega (arith, l, e)) h))
    ∙ none_in_range a k (s + 1) (⊎_elim (λ (l : a < s). inl (omega (arith, l))) (λ (l : s + suc k ≤ a). inr (omega (arith, l))) h)

one_in_range : (a k s : ℕ) → s ≤ a → a < s + k → filter (λ (n : ℕ). eqb a n) (range_with_len s k) ≡ a ∷ []
one_in_range a zero s low high = absurd (omega (arith, low, high))
one_in_range a (suc k) s low high = dite (ℕ_discrete a s)
    (λ e. ap (λ (b : Bool). cond b (s ∷ filter (λ (n : ℕ). eqb a n) (range_with_len (s + 1) k)) (filter
    (λ (n : ℕ). eqb a n) (range_with_len (s + 1) k))) (eq-eqb a s e)
    ∙ (λ i. sym e i ∷ none_in_range a k (s + 1) (inl (let l : a < s + 1 = omega (arith, e) in l)) i))
    (λ ne. ap (λ (b : Bool). cond b (s ∷ filter (λ (n : ℕ). eqb a n) (range_with_len (s + 1) k)) (filter
    (λ (n : ℕ). eqb a n) (range_with_len (s + 1) k))) (ne_eqb a s ne)
    ∙ one_in_range a k (s + 1) (next_above s a low ne) (omega (arith, high)))

one_actor : (line : Line) → (actor_number line.1 ≡ desk_number) ⊎ (actor_number line.1 < most_passes) → actors_in (alone line) ≡ actor_number line.1 ∷ []
one_actor line h =
    let a : ℕ = actor_number line.1 in
    let rest : List ℕ = filter (λ (n : ℕ). eqb a n) (range_with_len 0 most_passes) in
    (λ i. filter (λ (n : ℕ). has_line line n i) (desk_number ∷ range_with_len 0 most_passes))
    ∙ ⊎_elim (λ (e : a ≡ desk_number). ap (λ (b : Bool). cond b (desk_number ∷ rest) rest) (eq-eqb a desk_number e)
    ∙ (λ i. sym e i ∷ none_in_range a most_passes 0 (inr (let l : 0 + most_passes ≤ a = omega (arith, e) in l)) i))
    (λ (l : a < most_passes). ap (λ (b : Bool). cond b (desk_number ∷ rest) rest) (ne_eqb a desk_number (λ e. omega (arith, l, e)))
    ∙ one_in_range a most_passes 0 zero-le l) h

-- the record of one actor

orders_recorded : (w : Writer) (gs : List Given) → map (λ (e : DeskEntry). e.order) (recorded w gs) ≡ map (λ (g : Given). g.order) gs
orders_recorded w [] = refl
orders_recorded w (g ∷ gs) = ap (λ (os : List DeskOrder). g.order ∷ os) (orders_recorded (turn w (call_of g.order) g.replies).writer gs)

all_by : (who : ℕ) (w : Writer) (gs : List Given) → Every (λ g. g.who ≡ who) gs → recorded w gs ≡ entries_by who (recorded w gs)
all_by who w [] h = refl
all_by who w (g ∷ gs) h =
    let t = turn w (call_of g.order) g.replies in
    let e : DeskEntry = entry_of w g t in
    ap (λ (es : List DeskEntry). e ∷ es) (all_by who t.writer gs h.1)
    ∙ ap (λ (b : Bool). cond b (e ∷ entries_by who (recorded t.writer gs)) (entries_by who (recorded t.writer gs))) (sym (eq-eqb g.who who h.0))

no_stray : (who : ℕ) (got : List DeskEntry) (w : Writer) (gs : List Given) → Every (λ g. g.who ≡ who) gs
    → first_stray (record { who = who; got = got } ∷ []) (recorded w gs) ≡ None
no_stray who got w [] h = refl
no_stray who got w (g ∷ gs) h =
    let t = turn w (call_of g.order) g.replies in
    let e : DeskEntry = entry_of w g t in
    ap (λ (b : Bool). cond (not (b || false)) (Some e) (first_stray (record { who = who; got = got } ∷ []) (recorded t.writer gs)))
    (eq-eqb who g.who (sym h.0))
    ∙ no_stray who got t.writer gs h.1

-- the entries of turns

turn_own : (w : Writer) (order : DeskOrder) (ns : List ℕ)
    → writers_of (entries_of_turn (turn w (call_of order) ns)) ≡ entries_of_turn (turn w (call_of order) ns)
turn_own w order ns = ((turns_go_on w [] [] refl).turn (call_of order) ns).0 ∙ append-nil (entries_of_turn (turn w (call_of order) ns))

turns_own : (w : Writer) (gs : List Given)
    → writers_of (flat_map entries_of_turn (turns w (map answered gs))) ≡ flat_map entries_of_turn (turns w (map answered gs))
turns_own w [] = refl
turns_own w (g ∷ gs) =
    let t = turn w (call_of g.order) g.replies in
    writers_append (entries_of_turn t) (flat_map entries_of_turn (turns t.writer (map answered gs)))
    ∙ (λ i. turn_own w g.order g.replies i ++ turns_own t.writer gs i)

turns_apart : (w : Writer) (gs : List Given) (v : ℕ) → own_entries (v + 1) (flat_map entries_of_turn (turns w (map answered gs))) ≡ []
turns_apart w [] v = refl
turns_apart w (g ∷ gs) v =
    let t = turn w (call_of g.order) g.replies in
    own_append (v + 1) (entries_of_turn t) (flat_map entries_of_turn (turns t.writer (map answered gs)))
    ∙ (λ i. turn_apart w g.order g.replies v i ++ turns_apart t.writer gs v i)

-- a pass without a line

none_done : (published : List Generation) (s : Stand) (phase : Phase) (c : Course) (pass : PassId) → pass_part published s phase c pass ≡ []
    → own_entries (pass.0 + 1) c.entries ≡ [] → got_by pass.0 c.clerks ≡ [] → IsPassPart published s phase c pass
none_done published s phase c pass none own got = record {
  entries = own ∙ ap (λ (xs : List PassLine). flat_map (λ (x : PassLine). x.turn.entries) xs) (sym none);
  asks = ap (λ (es : List DeskEntry). map (λ (e : DeskEntry). e.order) es) got
      ∙ ap (λ (xs : List PassLine). flat_map (λ (x : PassLine). x.asks) xs) (sym none);
  after = subst (λ (xs : List PassLine). ActsAfterPublishes (s.seen ++ c.entries) (pass.0 + 1) (count_before s pass) xs) (sym none) tt;
}

no_part : (published : List Generation) (s : Stand) (line : Line) (c : Course) (pass : PassId) → (actor_number line.1 ≡ pass.0 → ⊥)
    → pass_part published s (alone line) c pass ≡ []
no_part published s line c pass ne =
    ap (λ (ls : List Line). lines_of_pass published s.known (stand_after published s (alone line) c).known.names pass (pass_state pass s.seen)
    ls (replies_of (own_entries (pass.0 + 1) c.entries)) (got_by pass.0 c.clerks)) (lines_none line pass.0 ne)

-- texts of passes, of which at most one has a line

no_texts : (f : PassId → Text) (v k a : ℕ) → ((u : PassId) → (u.0 ≡ v → ⊥) → f u ≡ []) → (v < a) ⊎ (a + k ≤ v)
    → flat_map f (map pass_id (range_with_len a k)) ≡ []
no_texts f v zero a none h = refl
no_texts f v (suc k) a none h =
    (λ i. none (pass_id a) (⊎_elim (λ (l : v < a). λ e. omega (arith, l, e)) (λ (l : a + suc k ≤ v). λ e. omega (arith, l, e)) h) i
    ++ no_texts f v k (a + 1) none (⊎_elim (λ (l : v < a). inl (omega (arith, l))) (λ (l : a + suc k ≤ v). inr (omega (arith, l))) h) i)

one_text : (f : PassId → Text) (v k a : ℕ) → ((u : PassId) → (u.0 ≡ v → ⊥) → f u ≡ []) → a ≤ v → v < a + k
    → flat_map f (map pass_id (range_with_len a k)) ≡ f (pass_id v)
one_text f v zero a none low high = absurd (omega (arith, low, high))
one_text f v (suc k) a none low high = dite (ℕ_discrete v a)
    (λ e. (λ i. f (pass_id (sym e i)) ++ no_texts f v k (a + 1) none (inl (let l : v < a + 1 = omega (arith, e) in l)) i) ∙ append-nil (f (pass_id v)))
    (λ ne. (λ i. none (pass_id a) (λ e. ne (sym e)) i ++ one_text f v k (a + 1) none (next_above a v low ne) (omega (arith, high)) i))

-- a line of the desk

pub desk_line_is_phase : DeskLineIsPhase
desk_line_is_phase published s line given is whos asks =
    let c : Course = desk_course s given in
    let rec : List DeskEntry = recorded s.writer given in
    let x : DeskLine = desk_line_of published s line given in
    let after : Stand = stand_after published s (alone line) c in
    let part : desk_part published s (alone line) c ≡ x ∷ [] =
    ap (λ (ls : List Line). lines_of_desk published s.known ls rec) (lines_mine line desk_number is) in
    let other : (pass : PassId) → pass.0 < most_passes → actor_number line.1 ≡ pass.0 → ⊥ = λ pass near e. (let f = sym is ∙ e in omega (arith, near, f)) in
    let none : (pass : PassId) → pass.0 < most_passes → pass_part published s (alone line) c pass ≡ [] =
    λ pass near. no_part published s line c pass (other pass near) in
    let written : DeskLine → Text = λ x. said_text after.known.names after.writer.desk.listening.journal x.said in
    let quiet : parts_text after (pass_part published s (alone line) c) passes ≡ parts_text after (λ (pass : PassId). []) passes =
    parts_text_same after (pass_part published s (alone line) c) (λ (pass : PassId). []) passes (every_pass
    (λ pass. pass_part published s (alone line) c pass ≡ []) none) in
    record {
      phase = record {
        writer = turns_own s.writer given;
        desk = orders_recorded s.writer given ∙ asks ∙ sym (append-nil x.asks)
            ∙ ap (λ (xs : List DeskLine). flat_map (λ (x : DeskLine). x.asks) xs) (sym part);
        each = every_pass (IsPassPart published s (alone line) c) (λ pass near. none_done published s (alone line) c pass (none pass near)
            (turns_apart s.writer given pass.0)
            (ap (λ (b : Bool). if b then rec else []) (ne_eqb desk_number pass.0 (λ e. omega (arith, near, e)))));
        clerks = sym (one_actor line (inl is) ∙ ap (λ (n : ℕ). n ∷ []) is);
        closes = ((all_by desk_number s.writer given whos, tt), no_stray desk_number rec s.writer given whos);
        lock = refl;
      };
      known = ap (λ (xs : List DeskLine). known_after s.known xs) part;
      text = (λ i. flat_map written (part i) ++ (quiet i ++ [])) ∙ append-nil (written x ++ []) ∙ append-nil (written x);
    }

pub desk_line_stops : DeskLineStops
desk_line_stops pool done s text line g name h is who task fits legal =
    let given : List Given = g ∷ [] in
    let c : Course = desk_course s given in
    let rec : List DeskEntry = recorded s.writer given in
    let not_pass : (pass : PassId) → pass.0 < most_passes → desk_number ≡ pass.0 → ⊥ = λ pass near e. omega (arith, near, e) in
    let got_none : (pass : PassId) → pass.0 < most_passes → got_by pass.0 c.clerks ≡ [] =
    λ pass near. ap (λ (b : Bool). if b then rec else []) (ne_eqb desk_number pass.0 (not_pass pass near)) in
    let whos : Every (λ g. g.who ≡ desk_number) given = (who, tt) in
    let closes : Closes rec c.clerks None = ((all_by desk_number s.writer given whos, tt), no_stray desk_number rec s.writer given whos) in record {
      legal = legal;
      writer = turns_own s.writer given;
      desk = record {
        front = [];
        left = line ∷ [];
        lines = lines_mine line desk_number is;
        got = [];
        had = rec;
        all = refl;
        asks = refl;
        next = (name, task);
      };
      each = λ pass near. record {
        names = s.known.names;
        front = [];
        left = [];
        lines = lines_none line pass.0 (λ e. not_pass pass near (sym is ∙ e));
        entries = turns_apart s.writer given pass.0;
        asks = ap (λ (es : List DeskEntry). map (λ (e : DeskEntry). e.order) es) (got_none pass near);
        after = tt;
        published = tt;
      };
      clerks = sym (one_actor line (inl is) ∙ ap (λ (n : ℕ). n ∷ []) is);
      closes = closes;
      told = record_tells pool done s text c h legal (turns_own s.writer given) closes;
      fits = (fits, tt);
    }

-- a line of a pass

own_take : (actor k : ℕ) (xs : List HistoryEntry) → length (own_entries actor (take k xs)) ≤ length (own_entries actor xs)
own_take actor zero xs = zero-le
own_take actor (suc k) [] = zero-le
own_take actor (suc k) (x ∷ xs) = go (eqb (actor_of x.event) actor) (own_take actor k xs)
  where
    go : (b : Bool) → length (own_entries actor (take k xs)) ≤ length (own_entries actor xs)
        → length (if b then x ∷ own_entries actor (take k xs) else own_entries actor (take k xs)) ≤ length
        (if b then x ∷ own_entries actor xs else own_entries actor xs)
    go true l = omega (arith, l)
    go false l = l

-- nothing that the actor does stands after its last line
last_after : (xs : List HistoryEntry) (actor count : ℕ) → length (own_entries actor xs) ≤ count → (o : Option ℕ) → IsAfterPublish xs actor count o
last_after xs actor count l None = tt
last_after xs actor count l (Some number) =
    let first : List HistoryEntry = before_first (publishes_number number) xs in
    let m = own_take actor (position_or_len (publishes_number number) xs) xs in
    let all : length (own_entries actor first) ≤ count = omega (arith, m, l) in le-leb (length (own_entries actor first)) count all

own_of_other : (u v : ℕ) (ys : List HistoryEntry) → (u ≡ v → ⊥) → own_entries (u + 1) (own_entries (v + 1) ys) ≡ []
own_of_other u v [] ne = refl
own_of_other u v (y ∷ ys) ne = go (eqb (actor_of y.event) (v + 1)) refl (own_of_other u v ys ne)
  where
    apart : (a : ℕ) → a ≡ v + 1 → a ≡ u + 1 → ⊥
    apart a e f = ne (let g : u ≡ v = omega (arith, e, f) in g)

    go : (b : Bool) → eqb (actor_of y.event) (v + 1) ≡ b → own_entries (u + 1) (own_entries (v + 1) ys) ≡ []
        → own_entries (u + 1) (if b then y ∷ own_entries (v + 1) ys else own_entries (v + 1) ys) ≡ []
    go true e rest = ap (λ (b : Bool). if b then y ∷ own_entries (u + 1) (own_entries (v + 1) ys) else own_entries (u + 1) (own_entries (v + 1) ys))
        (ne_eqb (actor_of y.event) (u + 1) (apart (actor_of y.event) (eqb-true (actor_of y.event) (v + 1) e))) ∙ rest
    go false e rest = rest

no_writers_own : (v : ℕ) (ys : List HistoryEntry) → writers_of (own_entries (v + 1) ys) ≡ []
no_writers_own v [] = refl
no_writers_own v (y ∷ ys) = go (eqb (actor_of y.event) (v + 1)) refl (no_writers_own v ys)
  where
    apart : (a : ℕ) → a ≡ 0 → a ≡ v + 1 → ⊥
    apart a e f = omega (arith, e, f)

    by_writer : (b : Bool) → is_writers y.event ≡ b → actor_of y.event ≡ v + 1 → writers_of (own_entries (v + 1) ys) ≡ []
        → cond b (y ∷ writers_of (own_entries (v + 1) ys)) (writers_of (own_entries (v + 1) ys)) ≡ []
    by_writer true w e rest = absurd (apart (actor_of y.event) (writer_actor y.event w) e)
    by_writer false w e rest = rest

    go : (b : Bool) → eqb (actor_of y.event) (v + 1) ≡ b → writers_of (own_entries (v + 1) ys) ≡ []
        → writers_of (if b then y ∷ own_entries (v + 1) ys else own_entries (v + 1) ys) ≡ []
    go true e rest = by_writer (is_writers y.event) refl (eqb-true (actor_of y.event) (v + 1) e) rest
    go false e rest = rest

pub pass_line_is_phase : PassLineIsPhase
pass_line_is_phase published s pass line ys given near is mine whos entries asks =
    let c : Course = pass_course s pass ys given in
    let rec : List DeskEntry = recorded s.writer given in
    let turned : List HistoryEntry = flat_map entries_of_turn (turns s.writer (map answered given)) in
    let x : PassLine = pass_line_of published s pass line ys given in
    let after : Stand = stand_after published s (alone line) c in
    let not_desk : actor_number line.1 ≡ desk_number → ⊥ = λ e. (let f = sym is ∙ e in omega (arith, near, f)) in
    let desk_none : desk_part published s (alone line) c ≡ [] =
    ap (λ (ls : List Line). lines_of_desk published s.known ls (got_by desk_number c.clerks)) (lines_none line desk_number not_desk) in
    let known : after.known ≡ s.known = ap (λ (xs : List DeskLine). known_after s.known xs) desk_none in
    let own_all : own_entries (pass.0 + 1) c.entries ≡ ys =
    own_append (pass.0 + 1) ys turned ∙ (λ i. mine i ++ turns_apart s.writer given pass.0 i) ∙ append-nil ys in
    let got_mine : got_by pass.0 c.clerks ≡ rec = ap (λ (b : Bool). if b then rec else []) (eq-eqb pass.0 pass.0 refl) in
    let part : pass_part published s (alone line) c pass ≡ x ∷ [] =
    (λ i. lines_of_pass published s.known (known i).names pass (pass_state pass s.seen) (lines_mine line pass.0 is i) (replies_of (own_all i)) (got_mine i)) in
    let other : (u : PassId) → (u.0 ≡ pass.0 → ⊥) → pass_part published s (alone line) c u ≡ [] =
    λ u ne. no_part published s line c u (λ e. ne (sym e ∙ is)) in
    let total : length (own_entries (pass.0 + 1) (s.seen ++ c.entries)) ≡ count_before s pass + length x.turn.entries =
    ap length (own_append (pass.0 + 1) s.seen c.entries ∙ ap (λ (es : List HistoryEntry). own_entries (pass.0 + 1) s.seen ++ es) (own_all ∙ entries))
    ∙ length-append (own_entries (pass.0 + 1) s.seen) x.turn.entries in
    let whole : IsPassPart published s (alone line) c pass = record {
      entries = own_all ∙ entries ∙ sym (append-nil x.turn.entries) ∙ ap (λ (xs : List PassLine). flat_map (λ (x : PassLine). x.turn.entries) xs) (sym part);
      asks = ap (λ (es : List DeskEntry). map (λ (e : DeskEntry). e.order) es) got_mine ∙ orders_recorded s.writer given ∙ asks ∙ sym (append-nil x.asks)
          ∙ ap (λ (xs : List PassLine). flat_map (λ (x : PassLine). x.asks) xs) (sym part);
      after = subst (λ (xs : List PassLine). ActsAfterPublishes (s.seen ++ c.entries) (pass.0 + 1) (count_before s pass) xs) (sym part)
          (last_after (s.seen ++ c.entries) (pass.0 + 1) (count_before s pass + length x.turn.entries) (le_of_eq total) x.published, tt);
    } in
    let written : PassLine → Text = λ x. said_text after.known.names after.writer.desk.listening.journal x.said in
    let texts : PassId → Text = λ u. flat_map written (pass_part published s (alone line) c u) in
    let only_one : flat_map texts passes ≡ texts pass =
    one_text texts pass.0 most_passes 0 (λ u ne. ap (λ (xs : List PassLine). flat_map written xs) (other u ne)) zero-le near in
    record {
      phase = record {
        writer = writers_append ys turned ∙ (λ i. (ap writers_of (sym mine) ∙ no_writers_own pass.0 ys) i ++ turns_own s.writer given i);
        desk = ap (λ (b : Bool). map (λ (e : DeskEntry). e.order) (if b then rec else [])) (ne_eqb pass.0 desk_number (λ e. omega (arith, near, e)))
            ∙ ap (λ (xs : List DeskLine). flat_map (λ (x : DeskLine). x.asks) xs) (sym desk_none);
        each = every_pass (IsPassPart published s (alone line) c) (λ u l. dite (ℕ_discrete u.0 pass.0)
            (λ e. let same : u ≡ pass = (λ i. record { 0 = e i }) in subst (λ (v : PassId). IsPassPart published s (alone line) c v) (sym same) whole)
            (λ ne. none_done published s (alone line) c u (other u ne)
            (own_append (u.0 + 1) ys turned ∙ (λ i. (ap (λ (es : List HistoryEntry). own_entries (u.0 + 1) es) (sym mine) ∙ own_of_other u.0 pass.0 ys ne) i
            ++ turns_apart s.writer given u.0 i))
            (ap (λ (b : Bool). if b then rec else []) (ne_eqb pass.0 u.0 (λ e. ne (sym e))))));
        clerks = sym (one_actor line (inr (subst (λ (n : ℕ). n < most_passes) (sym is) near)) ∙ ap (λ (n : ℕ). n ∷ []) is);
        closes = ((all_by pass.0 s.writer given whos, tt), no_stray pass.0 rec s.writer given whos);
        lock = refl;
      };
      known = known;
      text = ap (λ (xs : List DeskLine). flat_map (λ (y : DeskLine). said_text after.known.names after.writer.desk.listening.journal y.said) xs
          ++ (flat_map texts passes ++ [])) desk_none
          ∙ append-nil (flat_map texts passes) ∙ only_one ∙ ap (λ (xs : List PassLine). flat_map written xs) part ∙ append-nil (written x);
    }
