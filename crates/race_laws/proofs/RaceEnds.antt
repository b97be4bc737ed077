-- A race goes on to its end.
use Rattle.std.proofs.Common.{◌≡◌, ℕ, ◌<◌, Bool, true, false, List, [], ◌∷◌, ◌++◌, length, map, flat_map, refl, sym, ap, ◌∙◌, subst}
use Rattle.std.proofs.Common.{append_assoc, append-nil, None, if◌then◌else◌, eqb}
use Rattle.std.proofs.lemmas.List.{map-append}
use Rattle.mem_base.specs.map.PassIds.{PassId}
use Rattle.mem_base.specs.declared.machine.events.HistoryEntry.{HistoryEntry}
use Rattle.mem_base.specs.declared.machine.records.DeskEntry.{DeskEntry}
use Rattle.mem_base.specs.lists.Every.{Every}
use Rattle.mem_base.specs.map.Limits.{most_passes}
use Rattle.mem_base.specs.machine.Generations.{Generation}
use Rattle.mem_base.specs.machine.Actors.{generations_published}
use Rattle.mem_base.specs.machine.Turns.{Answered, last_writer, turns, writers_of}
use Rattle.mem_base.specs.machine.Records.{Clerk, Given, IsOfRecord, answered, got_by, FitsDeskOrder}
use Rattle.mem_base.specs.script.Spelling.{Text}
use Rattle.mem_base.specs.script.Scripts.{Line}
use Rattle.mem_base.specs.script.Run.{pool_words}
use Rattle.mem_base.specs.script.Race.{Phase, Course, Stand, ArePhases, IsTextOfRace, actors_in, alone, block, desk_number, first_stand, is_end, is_par}
use Rattle.mem_base.specs.script.Race.{lines_by, lines_in, pass_state, phase_text, phases_from, phases_of, put_in_block, stand_after, with_line}
use Rattle.run_laws.specs.Fitting.{AreFitting, FitsCommand}
use Rattle.cell_laws.specs.TurnCells.{HasFittingCall}
use Rattle.race_laws.proofs.Turning.{phases_have_turns}
use Rattle.mem_base.specs.machine.Passes.{PassState}
use Rattle.race_laws.specs.Acting.{DeskAt, PassAt}
use Rattle.race_laws.specs.SoFar.{HasFitting, IsNextPhase, IsRaceSoFar, IsTold, stand_along}
use Rattle.race_laws.specs.Stopped.{MayClose}
use Rattle.race_laws.proofs.GoesOn.{IsRested}
use Rattle.mem_base.proofs.EveryLaws.{every_append, every_rest}
use Rattle.race_laws.proofs.PassGoesOn.{count_before}
use Rattle.race_laws.proofs.SoFarLaws.{stops, takes_phase, whole_history}
use Rattle.race_laws.proofs.MachineGoes.{Stands, call_fits, writer_now}
use Rattle.race_laws.proofs.PhaseParts.{published_in}
use Rattle.race_laws.proofs.PhaseEnds.{Begun, UptoOn, all_go, closed_with, whole_phase}
use Rattle.race_laws.proofs.LastLeaves.{Lefts, all_leave, leaves_last}
use Rattle.turn_laws.proofs.TurnLists.{last_append}

-- the orders of all phases so far

writer_along : (gs : List Generation) (done : List Phase) (cs : List Course) (s : Stand) → ArePhases gs s done cs
    → last_writer s.writer (turns s.writer (map answered (flat_map (λ (c : Course). c.given) cs))) ≡ (stand_along gs s done cs).writer
writer_along gs [] [] s h = refl
writer_along gs [] (c ∷ cs) s h = absurd h
writer_along gs (p ∷ done) [] s h = absurd h
writer_along gs (p ∷ done) (c ∷ cs) s h =
    let rest : List Given = flat_map (λ (c : Course). c.given) cs in
    ap (λ (os : List Answered). last_writer s.writer (turns s.writer os)) (map-append answered c.given rest)
    ∙ last_append s.writer (map answered c.given) (map answered rest)
    ∙ writer_along gs done cs (stand_after gs s p c) h.1

pub given_fit : (gs : List Given) → Every (λ g. FitsDeskOrder g.order) gs → Every HasFittingCall (map answered gs)
given_fit [] h = tt
given_fit (g ∷ gs) h = (call_fits g.order g.replies h.0, given_fit gs h.1)

all_fit : (cs : List Course) → Every HasFitting cs → Every (λ g. FitsDeskOrder g.order) (flat_map (λ (c : Course). c.given) cs)
all_fit [] h = tt
all_fit (c ∷ cs) h = every_append (λ g. FitsDeskOrder g.order) c.given (flat_map (λ (c : Course). c.given) cs) h.0 (all_fit cs h.1)

-- the machine where a race has come to
pub record At (pool : ℕ) (s : Stand) : Type 0 where
  pub os : List Answered
  pub stands : Stands pool os s.seen
  pub writer : writer_now pool os ≡ s.writer

pub at_now : (pool : ℕ) (done : List Phase) (s : Stand) (text : Text) → IsRaceSoFar pool done s text → At pool s
at_now pool done s text h =
    let cs : List Course = h.0 in
    let gs : List Generation = generations_published s.seen in
    let given : List Given = flat_map (λ (c : Course). c.given) cs in record {
      os = map answered given;
      stands = record {
        legal = h.1.legal;
        same = ap writers_of (whole_history pool done cs s text h.1) ∙ phases_have_turns gs (first_stand pool) done cs h.1.phases;
        fits = given_fit given (all_fit cs h.1.fits);
      };
      writer = writer_along gs done cs (first_stand pool) h.1.phases ∙ ap (λ (z : Stand). z.writer) h.1.ends;
    }

-- every pass is between two lines
abbrev pub AreRested : List HistoryEntry → Type 0
AreRested xs = (pass : PassId) → pass.0 < most_passes → IsRested (pass_state pass xs)

-- a race went on by some phases
pub record WentOn (pool : ℕ) (s : Stand) (text : Text) (done : List Phase) (before : List HistoryEntry) : Type 0 where
  pub stand : Stand
  pub rest : Text
  pub race : IsRaceSoFar pool done stand (text ++ rest)
  pub more : List HistoryEntry
  pub is : stand.seen ≡ before ++ more
  pub rested : AreRested stand.seen

-- a phase that has begun goes on to its end
pub phase_goes_on : (pool : ℕ) (done : List Phase) (s : Stand) (text : Text) (phase : Phase) (c : Course) (h : IsRaceSoFar pool done s text)
    → Every (λ l. FitsCommand l.1) (lines_in phase) → Begun pool (at_now pool done s text h).os s phase c
    → WentOn pool s text (done ++ phase ∷ []) (s.seen ++ c.entries)
phase_goes_on pool done s text phase c h fits begun =
    let os : List Answered = (at_now pool done s text h).os in
    let u : UptoOn most_passes pool os s phase c = all_go pool os s phase fits c begun in
    let end = whole_phase pool os s phase u.course u.upto in
    let d : Course = closed_with u.course end.0 in
    let next : IsNextPhase pool s phase d = end.1 in
    let gs : List Generation = generations_published (s.seen ++ d.entries) in record {
      stand = stand_after gs s phase d;
      rest = phase_text gs s phase d;
      race = takes_phase pool done s text phase d h next;
      more = u.more;
      is = ap (λ (xs : List HistoryEntry). s.seen ++ xs) u.is ∙ sym (append_assoc s.seen c.entries u.more);
      rested = u.upto.rested;
    }

-- a phase of which nothing was done

abbrev nothing_yet : Phase → Course
nothing_yet phase = record { given = []; clerks = map (λ n. record { who = n; got = [] }) (actors_in phase); differs = None; entries = [] }

abbrev fresh_clerks : List ℕ → List Clerk
fresh_clerks ns = map (λ n. record { who = n; got = [] }) ns

got_none : (n : ℕ) (ns : List ℕ) → got_by n (fresh_clerks ns) ≡ []
got_none n [] = refl
got_none n (m ∷ ns) = go (eqb m n) (got_none n ns)
  where
    go : (b : Bool) → got_by n (fresh_clerks ns) ≡ [] → (if b then [] else got_by n (fresh_clerks ns)) ≡ []
    go true h = refl
    go false h = h

whos : (ns : List ℕ) → map (λ (c : Clerk). c.who) (fresh_clerks ns) ≡ ns
whos [] = refl
whos (n ∷ ns) = ap (λ (ms : List ℕ). n ∷ ms) (whos ns)

each_agrees : (ns : List ℕ) → Every (IsOfRecord []) (fresh_clerks ns)
each_agrees [] = tt
each_agrees (n ∷ ns) = (refl, each_agrees ns)

none_differs : (phase : Phase) (ns : List ℕ) → MayClose phase [] (fresh_clerks ns)
none_differs (alone line) ns = (each_agrees ns, refl)
none_differs (block lines) ns = tt

begins : (pool : ℕ) (s : Stand) (phase : Phase) (a : At pool s) → AreRested s.seen → Begun pool a.os s phase (nothing_yet phase)
begins pool s phase a rested =
    let c : Course = nothing_yet phase in
    let ns : List ℕ = actors_in phase in
    let seen : s.seen ++ [] ≡ s.seen = append-nil s.seen in record {
      part = record {
        stands = subst (λ (z : List Answered × List HistoryEntry). Stands pool z.0 z.1) (λ i. (sym (append-nil a.os) i, sym seen i)) a.stands;
        writer = ap (λ (os : List Answered). writer_now pool os) (append-nil a.os) ∙ a.writer;
        own = refl;
        clerks = whos ns;
        closes = none_differs phase ns;
        told = subst (λ (es : List DeskEntry). Every (IsTold (length (published_in s c))) es) (sym (got_none desk_number ns)) tt;
        fits = tt;
      };
      desk = record {
        front = [];
        left = lines_by desk_number phase;
        lines = refl;
        now = s.known;
        at = subst (λ (es : List DeskEntry). DeskAt (published_in s c) s.known [] es s.known) (sym (got_none desk_number ns))
            (λ later more. record { asks = refl; left = refl });
      };
      each = λ pass near. record {
        front = [];
        left = lines_by pass.0 phase;
        lines = refl;
        at = subst (λ (z : List DeskEntry × PassState). PassAt (published_in s c) s.known pass (s.seen ++ []) (count_before s pass)
            (record { before = pass_state pass s.seen; lines = []; own = []; got = z.0; now = z.1 }))
            (λ i. (sym (got_none pass.0 ns) i, sym (ap (λ (xs : List HistoryEntry). pass_state pass xs) seen) i))
            (λ names later zs replies more. record { entries = refl; asks = refl; after = tt; left = refl });
      };
      rested = λ pass near. subst (λ (xs : List HistoryEntry). IsRested (pass_state pass xs)) (sym seen) (rested pass near);
    }

-- all phases that are left

abbrev pub PhaseFits : Phase → Type 0
PhaseFits phase = Every (λ l. FitsCommand l.1) (lines_in phase)

pub phases_go_on : (left done : List Phase) (pool : ℕ) (s : Stand) (text : Text) → IsRaceSoFar pool done s text → AreRested s.seen → Every PhaseFits left
    → WentOn pool s text (done ++ left) s.seen
phases_go_on [] done pool s text h rested fits = record {
  stand = s;
  rest = [];
  race = subst (λ (z : List Phase × Text). IsRaceSoFar pool z.0 s z.1) (λ i. (sym (append-nil done) i, sym (append-nil text) i)) h;
  more = [];
  is = sym (append-nil s.seen);
  rested = rested;
}
phases_go_on (phase ∷ left) done pool s text h rested fits =
    let one = phase_goes_on pool done s text phase (nothing_yet phase) h fits.0 (begins pool s phase (at_now pool done s text h) rested) in
    let rest = phases_go_on left (done ++ phase ∷ []) pool one.stand (text ++ one.rest) one.race one.rested fits.1 in record {
      stand = rest.stand;
      rest = one.rest ++ rest.rest;
      race = subst (λ (z : List Phase × Text). IsRaceSoFar pool z.0 rest.stand z.1)
          (λ i. (append_assoc done (phase ∷ []) left i, append_assoc text one.rest rest.rest i)) rest.race;
      more = one.more ++ rest.more;
      is = rest.is ∙ ap (λ (xs : List HistoryEntry). xs ++ rest.more) (one.is ∙ ap (λ (xs : List HistoryEntry). xs ++ one.more) (append-nil s.seen))
          ∙ append_assoc s.seen one.more rest.more;
      rested = rest.rested;
    }

-- the phases of lines that fit fit

put_fits : (line : Line) (phases : List Phase) → FitsCommand line.1 → Every PhaseFits phases → Every PhaseFits (put_in_block line phases)
put_fits line [] h k = ((h, tt), tt)
put_fits line (alone l ∷ phases) h k = ((h, tt), k)
put_fits line (block ls ∷ phases) h k = ((h, k.0), k.1)

pub from_fits : (inside : Bool) (lines : List Line) → AreFitting lines → Every PhaseFits (phases_from inside lines)
from_fits inside [] h = tt
from_fits inside (line ∷ lines) h =
    go (is_par line.1) (is_end line.1) inside (from_fits true lines h.1) (from_fits false lines h.1) (from_fits inside lines h.1)
  where
    with_fits : (b : Bool) (phases : List Phase) → Every PhaseFits phases → Every PhaseFits (with_line b line phases)
    with_fits true phases k = put_fits line phases h.0 k
    with_fits false phases k = ((h.0, tt), k)

    go : (p e b : Bool) → Every PhaseFits (phases_from true lines) → Every PhaseFits (phases_from false lines) → Every PhaseFits (phases_from inside lines)
        → Every PhaseFits (if p then phases_from true lines else if e then phases_from false lines else with_line b line (phases_from inside lines))
    go true e b x y z = x
    go false true b x y z = y
    go false false b x y z = with_fits b (phases_from inside lines) z

-- to the end

pub record Ends (lines : List Line) (before : List HistoryEntry) (text : Text) : Type 0 where
  pub more : List HistoryEntry
  pub rest : Text
  pub race : IsTextOfRace lines (before ++ more) (text ++ rest)

pub left_ends : (lines : List Line) (done left : List Phase) (s : Stand) (text : Text) → AreFitting lines → phases_of lines ≡ done ++ left
    → IsRaceSoFar (pool_words lines) done s text → AreRested s.seen → Ends lines s.seen text
left_ends lines done left s text fits is h rested =
    let all = from_fits false lines fits in
    let left_fit : Every PhaseFits left = every_rest PhaseFits done left (subst (λ (ps : List Phase). Every PhaseFits ps) is all) in
    let w = phases_go_on left done (pool_words lines) s text h rested left_fit in
    let race : IsRaceSoFar (pool_words lines) (phases_of lines) w.stand (text ++ w.rest) =
    subst (λ (ps : List Phase). IsRaceSoFar (pool_words lines) ps w.stand (text ++ w.rest)) (sym is) w.race in
    let a = at_now (pool_words lines) (phases_of lines) w.stand (text ++ w.rest) race in
    let l : Lefts most_passes (pool_words lines) a.os w.stand.seen = all_leave (pool_words lines) a.os w.stand.seen a.stands in
    let end = stops lines w.stand (text ++ w.rest) l.last race l.stands.legal (leaves_last (pool_words lines) a.os w.stand.seen l) l.rests in record {
      more = w.more ++ l.last;
      rest = w.rest;
      race = subst (λ (xs : List HistoryEntry). IsTextOfRace lines xs (text ++ w.rest))
          (ap (λ (xs : List HistoryEntry). xs ++ l.last) w.is ∙ append_assoc s.seen w.more l.last) end;
    }
