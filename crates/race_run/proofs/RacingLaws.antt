-- Some phases of a race, and then some more.
use Rattle.std.proofs.Common.{◌≡◌, ℕ, ◌≤◌, List, [], ◌∷◌, ◌++◌, Option, Result, Ok, Err, OnOk, OnErr, refl, sym, ap, subst, ◌∙◌, arith, append-nil, append_assoc}
use Rattle.std.specs.Prelude.{IsErrOf}
use Rattle.std.specs.declared.alloc.AllocError.{AllocError}
use base.Growing.{prefix_refl}
use Rattle.outside.specs.Causes.{Rose}
use Rattle.outside.specs.Sink.{Takes, TakesPrefix, Writes}
use Rattle.outside.proofs.Took.{Takes-append, Takes-nil}
use Rattle.mem_base.specs.declared.machine.events.HistoryEntry.{HistoryEntry}
use Rattle.mem_base.specs.declared.script.commands.Command.TheVariants as commands
use Rattle.mem_base.specs.lists.Every.{Every}
use Rattle.mem_base.specs.machine.Actors.{own_entries}
use Rattle.mem_base.specs.machine.Reaps.{first_writer}
use Rattle.mem_base.specs.script.Spelling.{Text}
use Rattle.mem_base.specs.script.Scripts.{Line}
use Rattle.mem_base.specs.script.Run.{pool_words, text_of}
use Rattle.mem_base.specs.script.Tasks.{known_at_first}
use Rattle.mem_base.specs.script.Race.{IsAlone, IsTextOfRace, LeavesLast, Phase, Stand, first_stand, phases_of}
use Rattle.run_laws.specs.Fitting.{AreFitting}
use Rattle.race_laws.specs.SoFar.{IsRaceSoFar}
use Rattle.race_laws.specs.Outside.{IsFault}
use Rattle.race_laws.proofs.OutsideLaws.{faults_write}
use Rattle.race_laws.proofs.PhaseEnds.{every_pass}
use Rattle.race_laws.proofs.PlainRaces.{race_is_run}
use Rattle.race_laws.proofs.SoFarLaws.{stops}
use Rattle.race_laws.proofs.StoppedEnds.{race_goes_on}
use Rattle.race_inside.proofs.HandedOn.{ConfigState, IsLater, IsUnused, later_joins, later_same, StepsOn, StopsIn, WritesOn, sizes_of, stand_of}
use Rattle.epoch_rule.specs.declared.views.Sizes.{Sizes}
use Rattle.epoch_rule.specs.Rule.{IsLegal}
use Rattle.script_run.specs.declared.faults.RunFault.{RunFault}
use Rattle.script_run.specs.declared.faults.RunFault.TheVariants.{Memory, Write}
use Rattle.race_run.specs.declared.racers.Racer.{Racer}
use Rattle.race_run.specs.Ends.{HasClosed, IsFresh}
use Rattle.race_run.specs.Racing.{Goes, GoesThrough, HasStopped, StopsWithin, TakesOne}
use Rattle.script_run.proofs.Writing.{on_ok}
use Rattle.race_laws.proofs.OutsideRuns.{name_theirs}

-- before the first phase
race_starts : (pool : ℕ) → IsRaceSoFar pool [] (first_stand pool) []
race_starts pool = ([], record { legal = tt; phases = tt; ends = refl; writes = refl; told = tt; fits = tt })

-- commands that fit name their passes

-- How phases join

goes_through_both : (xs ys : List Phase) (a b c : Racer) (one two : Text) → b.desk.seat.sizes ≡ a.desk.seat.sizes → GoesThrough xs a b one
    → GoesThrough ys b c two → GoesThrough (xs ++ ys) a c (one ++ two)
goes_through_both xs ys a b c one two same first second pool done text sizes race =
    subst (λ (z : List Phase × Text). IsRaceSoFar pool z.0 (stand_of c.known c.desk) z.1)
    (λ i. (append_assoc done xs ys i, append_assoc text one two i))
    (second pool (done ++ xs) (text ++ one) (same ∙ sizes) (first pool done text sizes race))

stops_after : (xs ys : List Phase) (a b c : Racer) (one two : Text) → b.desk.seat.sizes ≡ a.desk.seat.sizes → GoesThrough xs a b one
    → StopsWithin ys b c two → StopsWithin (xs ++ ys) a c (one ++ two)
stops_after xs ys a b c one two same first second lines done left text sizes fits phases race =
    subst (IsFault lines c.desk.seat.seen) (append_assoc text one two)
    (second lines (done ++ xs) left (text ++ one) (same ∙ sizes) fits
    (phases ∙ ap (λ (zs : List Phase). done ++ zs) (append_assoc xs ys left) ∙ sym (append_assoc done xs (ys ++ left)))
    (first (pool_words lines) done text sizes race))

stops_before : (xs ys : List Phase) (a b : Racer) (one : Text) → StopsWithin xs a b one → StopsWithin (xs ++ ys) a b one
stops_before xs ys a b one first lines done left text sizes fits phases race =
    first lines done (ys ++ left) text sizes fits (phases ∙ ap (λ (zs : List Phase). done ++ zs) (append_assoc xs ys left)) race

err_of : {T E P Q : Type 0} (r : Result T E) → OnErr r P → (P → Q) → OnErr r Q
err_of (Ok x) p f = tt
err_of (Err e) p f = f p

module _ {K : Type 0} (written : K → Option (List ℕ)) (holds : K → List ℕ → Type 0) (faults : K → ℕ) where
  pub goes_none : (s : K) (a : Racer) → Goes written holds faults s s [] a a (Ok tt)
  goes_none s a = record {
    later = later_same a.desk;
    through = (
      [],
      Takes-nil written holds s,
      λ pool done text sizes race. subst (λ (z : List Phase × Text). IsRaceSoFar pool z.0 (stand_of a.known a.desk) z.1)
          (λ i. (sym (append-nil done) i, sym (append-nil text) i)) race,
    );
    stopped = tt;
    failed = λ e. cc;
    no_less = omega arith;
  }

  pub goes_on : (old mid new : K) (xs ys : List Phase) (a b c : Racer) (r : Result (Unit {0}) RunFault)
      → Goes written holds faults old mid xs a b (Ok tt) → Goes written holds faults mid new ys b c r
      → Goes written holds faults old new (xs ++ ys) a c r
  goes_on old mid new xs ys a b c r first second = record {
    later = later_joins a.desk b.desk c.desk first.later second.later;
    through = on_ok r second.through (λ t. (
      first.through.0 ++ t.0,
      Takes-append written holds old mid new first.through.0 t.0 first.through.1 t.1,
      goes_through_both xs ys a b c first.through.0 t.0 first.later.grew.sizes first.through.2 t.2,
    ));
    stopped = err_of r second.stopped (λ t. (
      first.through.0 ++ t.0,
      Takes-append written holds old mid new first.through.0 t.0 first.through.1 t.1,
      stops_after xs ys a b c first.through.0 t.0 first.later.grew.sizes first.through.2 t.2,
    ));
    failed = λ e. let rose = second.failed e in let less = first.no_less in omega arith;
    no_less = let one = first.no_less in let two = second.no_less in omega arith;
  }

  pub goes_no_further : (old new : K) (xs ys : List Phase) (a b : Racer) (e : RunFault) → Goes written holds faults old new xs a b (Err e)
      → Goes written holds faults old new (xs ++ ys) a b (Err e)
  goes_no_further old new xs ys a b e first = record {
    later = first.later;
    through = tt;
    stopped = (first.stopped.0, first.stopped.1, stops_before xs ys a b first.stopped.0 first.stopped.2);
    failed = first.failed;
    no_less = first.no_less;
  }

  -- Parts that go on, by the results that came

  by_result : (old new : K) (xs : List Phase) (a b : Racer) (r s : Result (Unit {0}) RunFault) → r ≡ s → Goes written holds faults old new xs a b r
      → Goes written holds faults old new xs a b s
  by_result old new xs a b r s is = subst (λ (z : Result (Unit {0}) RunFault). Goes written holds faults old new xs a b z) is

  pub goes_to_fault : (old mid new : K) (xs : List Phase) (phase : Phase) (ys all : List Phase) (a b c : Racer) (r : Result (Unit {0}) RunFault) (e : RunFault)
      → r ≡ Err e → (xs ++ phase ∷ []) ++ ys ≡ all → Goes written holds faults old mid xs a b (Ok tt)
      → Goes written holds faults mid new (phase ∷ []) b c r → Goes written holds faults old new all a c (Err e)
  goes_to_fault old mid new xs phase ys all a b c r e is whole first second =
      subst (λ (zs : List Phase). Goes written holds faults old new zs a c (Err e)) whole
      (goes_no_further old new (xs ++ phase ∷ []) ys a c e
      (goes_on old mid new xs (phase ∷ []) a b c (Err e) first (by_result mid new (phase ∷ []) b c r (Err e) is second)))

  pub goes_first_fault : (old new : K) (xs ys zs all : List Phase) (a b : Racer) (r : Result (Unit {0}) RunFault) (e : RunFault) → r ≡ Err e
      → xs ++ (ys ++ zs) ≡ all → Goes written holds faults old new xs a b r → Goes written holds faults old new all a b (Err e)
  goes_first_fault old new xs ys zs all a b r e is whole first =
      subst (λ (ps : List Phase). Goes written holds faults old new ps a b (Err e)) whole
      (goes_no_further old new xs (ys ++ zs) a b e (by_result old new xs a b r (Err e) is first))

  pub goes_second_fault : (old mid new : K) (xs ys zs all : List Phase) (a b c : Racer) (q r : Result (Unit {0}) RunFault) (e : RunFault) → q ≡ Ok tt
      → r ≡ Err e → xs ++ (ys ++ zs) ≡ all → Goes written holds faults old mid xs a b q → Goes written holds faults mid new ys b c r
      → Goes written holds faults old new all a c (Err e)
  goes_second_fault old mid new xs ys zs all a b c q r e fine is whole first second =
      subst (λ (ps : List Phase). Goes written holds faults old new ps a c (Err e)) whole
      (goes_on old mid new xs (ys ++ zs) a b c (Err e) (by_result old mid xs a b q (Ok tt) fine first)
      (goes_no_further mid new ys zs b c e (by_result mid new ys b c r (Err e) is second)))

  pub goes_three : (old mid last new : K) (xs ys zs all : List Phase) (a b c d : Racer) (q r s : Result (Unit {0}) RunFault) → q ≡ Ok tt → r ≡ Ok tt
      → xs ++ (ys ++ zs) ≡ all → Goes written holds faults old mid xs a b q → Goes written holds faults mid last ys b c r
      → Goes written holds faults last new zs c d s → Goes written holds faults old new all a d s
  goes_three old mid last new xs ys zs all a b c d q r s fine good whole first second third =
      subst (λ (ps : List Phase). Goes written holds faults old new ps a d s) whole
      (goes_on old mid new xs (ys ++ zs) a b d s (by_result old mid xs a b q (Ok tt) fine first)
      (goes_on mid last new ys zs b c d s (by_result mid last ys b c r (Ok tt) good second) third))

  -- one phase: done, and its text written or a part of it; or stopped for want of memory

  pub goes_one : (old new : K) (phase : Phase) (a b : Racer) (text : Text) (r : Result (Unit {0}) RunFault) → IsLater a.desk b.desk
      → StepsOn a.desk a.known phase b.desk b.known text → Writes written holds faults old new text Write r
      → Goes written holds faults old new (phase ∷ []) a b r
  goes_one old new phase a b text r later steps wrote = record {
    later = later;
    through = on_ok r wrote.all (λ t. (text, t, steps));
    stopped = err_of r wrote.prefix part;
    failed = wrote.failed;
    no_less = wrote.later;
  }
    where
      part : TakesPrefix written holds old new text → TakesOne written holds old new (StopsWithin (phase ∷ []) a b)
      part p = (
        p.0,
        p.3,
        λ lines done left before sizes fits phases race. faults_write lines b.desk.seat.seen (before ++ text) (before ++ p.0)
            (race_goes_on lines (done ++ phase ∷ []) left (stand_of b.known b.desk) (before ++ text) fits
            (phases ∙ sym (append_assoc done (phase ∷ []) left)) (steps (pool_words lines) done before sizes race))
            (p.1, append_assoc before p.0 p.1 ∙ ap (λ (z : Text). before ++ z) (sym p.2)),
      )

  pub goes_stopped : (old new : K) (phase : Phase) (a b : Racer) (r : Result (Unit {0}) RunFault) → IsLater a.desk b.desk
      → StopsIn a.desk a.known phase b.desk → r ≡ Err Memory → new ≡ old → Goes written holds faults old new (phase ∷ []) a b r
  goes_stopped old new phase a b r later stopped is same =
      subst (λ (z : K × Result (Unit {0}) RunFault). Goes written holds faults old z.0 (phase ∷ []) a b z.1) (λ i. (sym same i, sym is i)) (record {
        later = later;
        through = tt;
        stopped = (
          [],
          Takes-nil written holds old,
          λ lines done left before sizes fits phases race. faults_write lines b.desk.seat.seen before (before ++ [])
              (stopped lines done left before sizes fits phases race) ([], append-nil (before ++ []) ∙ append-nil before),
        );
        failed = λ e. cc;
        no_less = omega arith;
      })

  -- what came of a phase, by whether memory lasted for it
  pub goes_done : (old new : K) (phase : Phase) (a b : Racer) (before text : Text) (done : Result (Unit {0}) AllocError) (r : Result (Unit {0}) RunFault)
      → IsLater a.desk b.desk → before ≡ [] → OnOk done (WritesOn a.desk a.known phase b.desk b.known before text)
      → OnErr done (StopsIn a.desk a.known phase b.desk) → OnOk done (Writes written holds faults old new text Write r)
      → OnErr done ((r ≡ Err Memory) × (new ≡ old)) → Goes written holds faults old new (phase ∷ []) a b r
  goes_done old new phase a b before text (Ok x) r later none steps stopped wrote memory =
      goes_one old new phase a b text r later
      (subst (λ (t : Text). StepsOn a.desk a.known phase b.desk b.known t) (sym (steps.text ∙ ap (λ (t : Text). t ++ steps.written) none)) steps.steps) wrote
  goes_done old new phase a b before text (Err e) r later none steps stopped wrote memory =
      goes_stopped old new phase a b r later stopped memory.0 memory.1

  -- A whole race

  first_race : (pool : ℕ) (a : Racer) → a.known ≡ known_at_first → a.desk.seat.seen ≡ [] → a.desk.part ≡ (first_stand pool).writer
      → IsRaceSoFar pool [] (stand_of a.known a.desk) []
  first_race pool a known seen part =
      subst (λ (s : Stand). IsRaceSoFar pool [] s []) (λ i. record { known = sym known i; seen = sym seen i; writer = sym part i }) (race_starts pool)

  pub whole_race : (old new : K) (lines : List Line) (a b : Racer) (c : ConfigState) (r : Result (Unit {0}) RunFault)
      → Goes written holds faults old new (phases_of lines) a b r → HasClosed b.desk c
      → a.desk.seat.sizes ≡ sizes_of (pool_words lines) → a.known ≡ known_at_first → a.desk.seat.seen ≡ []
      → a.desk.part ≡ (first_stand (pool_words lines)).writer → OnOk r (TakesOne written holds old new (IsTextOfRace lines c.seat.seen))
  whole_race old new lines a b c r goes closed sizes known seen part = on_ok r goes.through (λ t. (
    t.0,
    t.1,
    let race : IsRaceSoFar (pool_words lines) (phases_of lines) (stand_of b.known b.desk) t.0 =
        t.2 (pool_words lines) [] [] sizes (first_race (pool_words lines) a known seen part) in
        let same : c.seat.sizes ≡ sizes_of (pool_words lines) = closed.sizes ∙ goes.later.grew.sizes ∙ sizes in
        subst (λ (xs : List HistoryEntry). IsTextOfRace lines xs t.0) (sym closed.whole)
        (stops lines (stand_of b.known b.desk) t.0 closed.last race
        (subst (λ (z : Sizes × List HistoryEntry). IsLegal z.0 z.1) (λ i. (same i, closed.whole i)) closed.legal) closed.leaves.each closed.leaves.rests),
  ))

  pub stopped_race : (old new : K) (lines : List Line) (a b : Racer) (c : ConfigState) (r : Result (Unit {0}) RunFault)
      → Goes written holds faults old new (phases_of lines) a b r → HasClosed b.desk c → AreFitting lines
      → a.desk.seat.sizes ≡ sizes_of (pool_words lines) → a.known ≡ known_at_first → a.desk.seat.seen ≡ []
      → a.desk.part ≡ (first_stand (pool_words lines)).writer → OnErr r (TakesOne written holds old new (HasStopped lines c))
  stopped_race old new lines a b c r goes closed fits sizes known seen part = err_of r goes.stopped (λ t. (
    t.0,
    t.1,
    record {
      seen = b.desk.seat.seen;
      last = closed.last;
      whole = closed.whole;
      leaves = closed.leaves;
      fault = t.2 lines [] [] [] sizes fits (sym (append-nil (phases_of lines))) (first_race (pool_words lines) a known seen part);
    },
  ))

  -- a script without a block has the text of its run

  pub plain_race : (old new : K) (lines : List Line) (c : ConfigState) (r : Result (Unit {0}) RunFault) → AreFitting lines
      → OnOk r (TakesOne written holds old new (IsTextOfRace lines c.seat.seen)) → OnErr r (TakesOne written holds old new (HasStopped lines c))
      → (IsErrOf r Write → Rose (faults old) (faults new)) → faults old ≤ faults new → Every IsAlone (phases_of lines)
      → Writes written holds faults old new (text_of lines) Write r
  plain_race old new lines c r fits through stopped failed less plain = record {
    all = on_ok r through (λ t. subst (Takes written holds old new)
        (race_is_run lines c.seat.seen t.0 (name_theirs lines fits) plain t.2) t.1);
    prefix = err_of r stopped (λ t. let f = t.2.fault in (
      t.0,
      f.prefix.0,
      sym (f.prefix.1 ∙ race_is_run lines f.history f.text (name_theirs lines fits) plain f.race),
      t.1,
    ));
    failed = failed;
    later = less;
  }

  -- where nothing could be begun
  pub nothing_begun : (s : K) (lines : List Line) (c : ConfigState) → AreFitting lines → c.seat.seen ≡ []
      → TakesOne written holds s s (HasStopped lines c)
  nothing_begun s lines c fits seen = (
    [],
    Takes-nil written holds s,
    record {
      seen = [];
      last = [];
      whole = seen;
      leaves = record { each = every_pass (LeavesLast [] []) (λ pass near. refl); rests = refl };
      fault = faults_write lines [] [] [] (race_goes_on lines [] (phases_of lines) (first_stand (pool_words lines)) [] fits refl (race_starts (pool_words lines)))
          (prefix_refl []);
    },
  )

-- a fresh desk is unused
pub unused_fresh : (pool : ℕ) (c : ConfigState) → IsFresh pool c → IsUnused c
unused_fresh pool c f = record {
  pool_words = pool;
  wide = ap (λ (z : Sizes). z.words) f.sizes;
  none = ap (own_entries 0) f.seen;
  part = f.part ∙ ap (λ (z : Sizes). first_writer pool z.passes) (sym f.sizes);
}
