-- A race that stopped within a phase goes on to its end.
use Rattle.std.proofs.Common.{◌≡◌, ℕ, zero, suc, ◌+◌, ◌<◌, ◌≤◌, List, [], ◌∷◌, ◌++◌, length, map, refl, sym, ap, ◌∙◌, subst, arith}
use Rattle.std.proofs.Common.{Result, append-nil, append_assoc, inl, zero-le, false}
use Rattle.std.specs.List.{range_with_len}
use mathlib.Core.Logic.{dite}
use native.Mathlib.Decide.{ℕ_discrete}
use Rattle.mem_base.specs.map.PassIds.{PassId}
use Rattle.mem_base.specs.declared.machine.events.HistoryEntry.{HistoryEntry}
use Rattle.mem_base.specs.declared.machine.records.DeskEntry.{DeskEntry}
use Rattle.mem_base.specs.declared.machine.records.DeskOrder.TheVariants as orders
use Rattle.mem_base.specs.lists.Every.{Every}
use Rattle.mem_base.specs.map.Limits.{most_passes, notifier_count}
use Rattle.mem_base.specs.machine.Passes.{PassState, idle, pass_id}
use Rattle.mem_base.specs.machine.Generations.{Generation}
use Rattle.mem_base.specs.machine.Actors.{generations_published, own_entries, pass_after_all}
use Rattle.mem_base.specs.machine.Turns.{replies_of}
use Rattle.mem_base.specs.machine.Records.{got_by}
use Rattle.mem_base.specs.script.Spelling.{Text}
use Rattle.mem_base.specs.script.Scripts.{Line}
use Rattle.mem_base.specs.script.Named.{Names}
use Rattle.mem_base.specs.script.Tasks.{Task}
use Rattle.mem_base.specs.script.Run.{pool_words}
use Rattle.mem_base.specs.script.RaceLines.{PassLine, known_after, lines_of_pass}
use Rattle.mem_base.specs.script.Race.{Phase, Course, Stand, ArePhases, IsPassPart, desk_number, first_stand, lines_by, pass_state, passes, phases_of}
use Rattle.mem_base.specs.script.Race.{ActsAfterPublishes, IsTextOfRace, stand_after}
use Rattle.history_laws.proofs.AppendLaws.{own_append, pass_by_append}
use Rattle.run_laws.specs.Fitting.{AreFitting}
use Rattle.race_laws.specs.Acting.{DeskAt, left_of_pass, pass_left}
use Rattle.race_laws.specs.SoFar.{IsNextPhase, IsRaceSoFar, IsTold, stand_along}
use Rattle.race_laws.proofs.GoesOn.{IsRested}
use Rattle.race_laws.specs.Stopped.{ActorsHaveBegun, ActorsHaveDone, BeginsLine, DeskActor, DeskHasDone, GoesOn, HasBegun, PassActor, PassHasDone}
use Rattle.race_laws.specs.Stopped.{first_desk_lines, first_pass_lines}
use Rattle.race_laws.proofs.ActingLaws.{desk_ends, pass_ends}
use Rattle.race_laws.proofs.DeskGoes.{DeskOn, desk_line_with}
use Rattle.race_laws.proofs.EnterLaws.{enters_below, some_published}
use Rattle.race_laws.proofs.SoFarLaws.{whole_history}
use Rattle.race_laws.proofs.NextLines.{orders_of}
use Rattle.race_laws.proofs.LinesAgain.{acts_longer, asks_in, entries_in, lines_again, lines_rested}
use Rattle.mem_base.proofs.EveryLaws.{every_append, every_first, every_rest}
use Rattle.race_laws.proofs.MorePublished.{EntersBelow, IsUnder, entries_under}
use Rattle.race_laws.proofs.PhaseParts.{Part, has_clerk, published_in}
use Rattle.race_laws.proofs.PassGoesOn.{count_before}
use Rattle.race_laws.proofs.Phases.{each_course, every_own}
use Rattle.race_laws.proofs.PhaseEnds.{PassBegun, begun_kept, every_pass, rested_kept}
use Rattle.race_laws.proofs.RaceEnds.{AreRested, At, Ends, PhaseFits, WentOn, at_now, from_fits, left_ends, phase_goes_on}
use Rattle.race_laws.proofs.NextNumbers.{next_above}
use Rattle.race_laws.proofs.StoppedLaws.{begun_part, desk_again}

-- a pass's state after a part of a phase
state_by : (s : Stand) (c : Course) (pass : PassId)
    → pass_after_all (pass_state pass s.seen) (own_entries (pass.0 + 1) c.entries) ≡ pass_state pass (s.seen ++ c.entries)
state_by s c pass =
    sym (pass_by_append (own_entries (pass.0 + 1) s.seen) (own_entries (pass.0 + 1) c.entries) idle)
    ∙ ap (λ (es : List HistoryEntry). pass_after_all idle es) (sym (own_append (pass.0 + 1) s.seen c.entries))

module _ (gs : List Generation) (some : 0 < length gs) (s : Stand) (c : Course) (pass : PassId) (below : Every (EntersBelow (length gs))
    (s.seen ++ c.entries)) where
  under : IsUnder (length gs) (pass_state pass s.seen).entered
  under = entries_under (length gs) idle (own_entries (pass.0 + 1) s.seen) tt
      (every_own (EntersBelow (length gs)) (pass.0 + 1) s.seen (every_first (EntersBelow (length gs)) s.seen c.entries below))

  own_below : (es : List HistoryEntry) → own_entries (pass.0 + 1) c.entries ≡ es → Every (EntersBelow (length gs)) es
  own_below es is = subst (λ (es : List HistoryEntry). Every (EntersBelow (length gs)) es) is
      (every_own (EntersBelow (length gs)) (pass.0 + 1) c.entries (every_rest (EntersBelow (length gs)) s.seen c.entries below))

  -- it is between two lines again
  rested_after : (names : Names) (front : List Line) (got : List DeskEntry)
      → own_entries (pass.0 + 1) c.entries ≡ entries_in (lines_of_pass gs s.known names pass (pass_state pass s.seen) front
      (replies_of (own_entries (pass.0 + 1) c.entries)) got) → IsRested (pass_state pass s.seen) → IsRested (pass_state pass (s.seen ++ c.entries))
  rested_after names front got is h =
      let p : PassState = pass_state pass s.seen in
      let ns : List ℕ = replies_of (own_entries (pass.0 + 1) c.entries) in
      let es : List HistoryEntry = entries_in (lines_of_pass gs s.known names pass p front ns got) in
      subst IsRested (ap (λ (es : List HistoryEntry). pass_after_all p es) (sym is) ∙ state_by s c pass)
      (lines_rested gs some s.known names pass front p ns got under (own_below es is) h)

-- what holds of all passes holds of each

from_range : (P : PassId → Type 0) (k a n : ℕ) → Every P (map pass_id (range_with_len a k)) → a ≤ n → n < a + k → P (pass_id n)
from_range P zero a n h low high = absurd (omega (arith, low, high))
from_range P (suc k) a n h low high = dite (ℕ_discrete n a)
    (λ same. subst (λ (m : ℕ). P (pass_id m)) (sym same) h.0)
    (λ other. from_range P k (a + 1) n h.1 (next_above a n low other) (omega (arith, high)))

pub each_pass : (P : PassId → Type 0) → Every P passes → (pass : PassId) → pass.0 < most_passes → P pass
each_pass P h pass near = from_range P most_passes 0 pass.0 h zero-le near

-- between two phases each pass is between two lines

rested_along : (gs : List Generation) → 0 < length gs → (done : List Phase) (cs : List Course) (s : Stand) → Every (EntersBelow (length gs)) s.seen
    → Every (λ c. Every (EntersBelow (length gs)) c.entries) cs → ArePhases gs s done cs → AreRested s.seen → AreRested (stand_along gs s done cs).seen
rested_along gs some [] [] s seen new h rested = rested
rested_along gs some [] (c ∷ cs) s seen new h rested = absurd h
rested_along gs some (phase ∷ done) [] s seen new h rested = absurd h
rested_along gs some (phase ∷ done) (c ∷ cs) s seen new h rested =
    let all = every_append (EntersBelow (length gs)) s.seen c.entries seen new.0 in
    rested_along gs some done cs (stand_after gs s phase c) all new.1 h.1
    (λ pass near. let p : IsPassPart gs s phase c pass = each_pass (IsPassPart gs s phase c) h.0.each pass near in
    rested_after gs some s c pass all (stand_after gs s phase c).known.names (lines_by pass.0 phase) (got_by pass.0 c.clerks) p.entries (rested pass near))

pub race_rested : (pool : ℕ) (done : List Phase) (s : Stand) (text : Text) → IsRaceSoFar pool done s text → AreRested s.seen
race_rested pool done s text h =
    let gs : List Generation = generations_published s.seen in
    let below = enters_below (pool + notifier_count) most_passes s.seen h.1.legal in
    let whole = whole_history pool done h.0 s text h.1 in
    let each = each_course (EntersBelow (length gs)) h.0 (subst (λ (xs : List HistoryEntry). Every (EntersBelow (length gs)) xs) whole below) in
    subst (λ (z : Stand). AreRested z.seen) h.1.ends
    (rested_along gs (some_published s.seen) done h.0 (first_stand pool) tt each h.1.phases (λ pass near. refl))

-- what a runner knows of a pass

pass_begun : (pool : ℕ) (s : Stand) (phase : Phase) (c : Course) → HasBegun pool s phase c → (pass : PassId) → PassHasDone s phase c pass
    → PassActor s phase c pass
pass_begun pool s phase c h pass d =
    let gs : List Generation = published_in s c in
    let some = some_published (s.seen ++ c.entries) in
    let below = enters_below (pool + notifier_count) most_passes (s.seen ++ c.entries) h.legal in
    let p : PassState = pass_state pass s.seen in
    let own : List HistoryEntry = own_entries (pass.0 + 1) c.entries in
    let got : List DeskEntry = got_by pass.0 c.clerks in
    let part : List PassLine = first_pass_lines s c pass d.names d.front in
    let es : List HistoryEntry = entries_in part in
    let xs : List HistoryEntry = s.seen ++ c.entries in
    let again = lines_again gs some s.known d.names pass d.front p (replies_of own) got (under gs some s c pass below)
    (own_below gs some s c pass below es d.entries) d.asks in
    let state : pass_after_all p es ≡ pass_state pass xs = ap (λ (es : List HistoryEntry). pass_after_all p es) (sym d.entries) ∙ state_by s c pass in record {
      front = d.front;
      left = d.left;
      lines = d.lines;
      at = λ names later zs ms more.
          let a = again later names ms more in
          let same : lines_of_pass (gs ++ later) s.known names pass p d.front (replies_of own ++ ms) (got ++ more)
          ≡ lines_of_pass (gs ++ later) s.known names pass p d.front (replies_of es ++ ms) (got ++ more) =
          ap (λ (ys : List HistoryEntry). lines_of_pass (gs ++ later) s.known names pass p d.front (replies_of ys ++ ms) (got ++ more)) d.entries in record {
            entries = d.entries ∙ sym a.entries ∙ ap (λ (ls : List PassLine). entries_in ls) (sym same);
            asks = d.asks ∙ sym a.asks ∙ ap (λ (ls : List PassLine). asks_in ls) (sym same);
            after = subst (λ (ls : List PassLine). ActsAfterPublishes (xs ++ zs) (pass.0 + 1) (count_before s pass) ls) (sym same)
                (a.acts (xs ++ zs) (count_before s pass) (acts_longer xs zs (pass.0 + 1) (count_before s pass) part d.published d.after));
            left = ap (λ (ys : List HistoryEntry). left_of_pass (gs ++ later) s.known names pass p d.front (replies_of ys ++ ms) (got ++ more)) d.entries
                ∙ a.left ∙ ap (λ (q : PassState). pass_left q ms more) state;
          };
    }

-- what a runner knows of all actors
actors : (pool : ℕ) (s : Stand) (phase : Phase) (c : Course) → HasBegun pool s phase c → ActorsHaveBegun pool s phase c
actors pool s phase c h =
    let gs : List Generation = published_in s c in
    let d : DeskHasDone s phase c = h.desk in
    let told : Every (IsTold (length gs)) d.got =
    every_first (IsTold (length gs)) d.got d.had (subst (λ (es : List DeskEntry). Every (IsTold (length gs)) es) d.all h.told) in record {
      legal = h.legal;
      writer = h.writer;
      desk = record {
        front = d.front;
        left = d.left;
        lines = d.lines;
        got = d.got;
        had = d.had;
        all = d.all;
        now = known_after s.known (first_desk_lines s c d.front d.got);
        at = desk_again gs (some_published (s.seen ++ c.entries)) d.front s.known d.got d.asks told;
        next = d.next;
      };
      each = λ pass near. pass_begun pool s phase c h pass (h.each pass near);
      clerks = h.clerks;
      closes = h.closes;
      told = h.told;
      fits = h.fits;
    }

-- to the end of the phase

pub begun_goes_on : (pool : ℕ) (done : List Phase) (s : Stand) (text : Text) (phase : Phase) (c : Course) → IsRaceSoFar pool done s text
    → PhaseFits phase → ActorsHaveBegun pool s phase c → WentOn pool s text (done ++ phase ∷ []) (s.seen ++ c.entries)
begun_goes_on pool done s text phase c h fits b =
    by_had b.desk.had b.desk.left b.desk.lines b.desk.all b.desk.next
  where
    a : At pool s
    a = at_now pool done s text h

    gs : List Generation
    gs = published_in s c

    part : Part pool a.os s phase c
    part = begun_part pool s phase c a b

    d : DeskActor s phase c
    d = b.desk

    rested : (pass : PassId) → pass.0 < most_passes → IsRested (pass_state pass (s.seen ++ c.entries))
    rested pass near =
        let p : PassActor s phase c pass = b.each pass near in
        let own : List HistoryEntry = own_entries (pass.0 + 1) c.entries in
        let got : List DeskEntry = got_by pass.0 c.clerks in
        let r = p.at s.known.names [] [] [] [] in
        rested_after gs (some_published (s.seen ++ c.entries)) s c pass
        (enters_below (pool + notifier_count) most_passes (s.seen ++ c.entries) b.legal) s.known.names p.front got
        (r.entries ∙ (λ i. entries_in (lines_of_pass (append-nil gs i) s.known s.known.names pass (pass_state pass s.seen) p.front
        (append-nil (replies_of own) i) (append-nil got i))))
        (race_rested pool done s text h pass near)

    each : (pass : PassId) → pass.0 < most_passes → PassBegun s phase c pass
    each pass near = let p : PassActor s phase c pass = b.each pass near in record { front = p.front; left = p.left; lines = p.lines; at = p.at }

    by_had : (had : List DeskEntry) (left : List Line) → lines_by desk_number phase ≡ d.front ++ left → got_by desk_number c.clerks ≡ d.got ++ had
        → BeginsLine d.now left had → WentOn pool s text (done ++ phase ∷ []) (s.seen ++ c.entries)
    by_had [] left lines all next = phase_goes_on pool done s text phase c h fits record {
      part = part;
      desk = record {
        front = d.front;
        left = left;
        lines = lines;
        now = d.now;
        at = subst (λ (es : List DeskEntry). DeskAt gs s.known d.front es d.now) (sym (append-nil d.got) ∙ sym all) d.at;
      };
      each = each;
      rested = rested;
    }
    by_had (e ∷ []) (line ∷ left) lines all next =
        let o : DeskOn pool a.os s phase c (d.front ++ line ∷ []) =
        desk_line_with pool a.os s phase (λ cs whos. has_clerk phase cs desk_number d.front line left whos (inl refl) lines) c d.front d.now line d.got
        (e ∷ [])
        (orders.Look ∷ []) part all d.at (ap (λ (t : Result Task Text). orders_of t ++ orders.Look ∷ []) next.1) (tt, tt) in
        let other : (pass : PassId) → pass.0 < most_passes → pass.0 ≡ desk_number → ⊥ = λ pass near same. omega (arith, near, same) in
        let w = phase_goes_on pool done s text phase o.course h fits record {
          part = o.part;
          desk = record {
            front = d.front ++ line ∷ [];
            left = left;
            lines = lines ∙ sym (append_assoc d.front (line ∷ []) left);
            now = o.now;
            at = o.at;
          };
          each = λ pass near. begun_kept pool a.os s phase fits c o.course pass o.only.more o.only.is (o.only.apart pass.0 (other pass near))
              (o.only.got pass.0 (other pass near)) (each pass near);
          rested = λ pass near. rested_kept pool a.os s phase fits c o.course pass o.only.more o.only.is (o.only.apart pass.0 (other pass near))
              (rested pass near);
        } in record {
          stand = w.stand;
          rest = w.rest;
          race = w.race;
          more = o.only.more ++ w.more;
          is = w.is ∙ ap (λ (xs : List HistoryEntry). (s.seen ++ xs) ++ w.more) o.only.is
              ∙ ap (λ (xs : List HistoryEntry). xs ++ w.more) (sym (append_assoc s.seen c.entries o.only.more))
              ∙ append_assoc (s.seen ++ c.entries) o.only.more w.more;
          rested = w.rested;
        }
    by_had (e ∷ []) [] lines all next = absurd next
    by_had (e ∷ f ∷ had) left lines all next = absurd (grind arith)

-- to the end of the race

goes_on : (lines : List Line) (seen : List HistoryEntry) (text : Text) → Ends lines seen text → GoesOn lines seen text
goes_on lines seen text e = (e.more, e.rest, e.race)

pub race_goes_on : (lines : List Line) (done left : List Phase) (s : Stand) (text : Text) → AreFitting lines → phases_of lines ≡ done ++ left
    → IsRaceSoFar (pool_words lines) done s text → GoesOn lines s.seen text
race_goes_on lines done left s text fits is h =
    goes_on lines s.seen text (left_ends lines done left s text fits is h (race_rested (pool_words lines) done s text h))

pub stopped_actors_go_on : (lines : List Line) (done : List Phase) (phase : Phase) (left : List Phase) (s : Stand) (text : Text) (c : Course)
    → AreFitting lines → phases_of lines ≡ done ++ phase ∷ left → IsRaceSoFar (pool_words lines) done s text → ActorsHaveBegun (pool_words lines) s phase c
    → GoesOn lines (s.seen ++ c.entries) text
stopped_actors_go_on lines done phase left s text c fits is h b =
    let all = every_rest PhaseFits done (phase ∷ left) (subst (λ (ps : List Phase). Every PhaseFits ps) is (from_fits false lines fits)) in
    let w = begun_goes_on (pool_words lines) done s text phase c h all.0 b in
    let e : Ends lines w.stand.seen (text ++ w.rest) =
    left_ends lines (done ++ phase ∷ []) left w.stand (text ++ w.rest) fits (is ∙ sym (append_assoc done (phase ∷ []) left)) w.race w.rested in (
      w.more ++ e.more,
      w.rest ++ e.rest,
      subst (λ (z : List HistoryEntry × Text). IsTextOfRace lines z.0 z.1)
          (λ i. (
            (ap (λ (xs : List HistoryEntry). xs ++ e.more) w.is ∙ append_assoc (s.seen ++ c.entries) w.more e.more) i,
            append_assoc text w.rest e.rest i,
          )) e.race,
    )

pub stopped_race_goes_on : (lines : List Line) (done : List Phase) (phase : Phase) (left : List Phase) (s : Stand) (text : Text) (c : Course)
    → AreFitting lines → phases_of lines ≡ done ++ phase ∷ left → IsRaceSoFar (pool_words lines) done s text → HasBegun (pool_words lines) s phase c
    → GoesOn lines (s.seen ++ c.entries) text
stopped_race_goes_on lines done phase left s text c fits is h b =
    stopped_actors_go_on lines done phase left s text c fits is h (actors (pool_words lines) s phase c b)

pub actors_make_phase : (pool : ℕ) (s : Stand) (phase : Phase) (c : Course) → ActorsHaveDone pool s phase c → IsNextPhase pool s phase c
actors_make_phase pool s phase c h =
    let gs : List Generation = published_in s c in record {
      legal = h.legal;
      lines = record {
        writer = h.writer;
        desk = desk_ends gs s phase c h.now h.desk;
        each = every_pass (IsPassPart gs s phase c) (λ pass near. let p = h.each pass near in pass_ends gs s phase c pass p.0 p.1);
        clerks = h.clerks;
        closes = h.closes;
        lock = h.lock;
      };
      told = h.told;
      fits = h.fits;
    }

pub races_exist : (lines : List Line) → AreFitting lines → (xs : List HistoryEntry) × (text : Text) × IsTextOfRace lines xs text
races_exist lines fits =
    let pool : ℕ = pool_words lines in
    let nothing : IsRaceSoFar pool [] (first_stand pool) [] =
    ([], record { legal = tt; phases = tt; ends = refl; writes = refl; told = tt; fits = tt }) in
    race_goes_on lines [] (phases_of lines) (first_stand pool) [] fits refl nothing
