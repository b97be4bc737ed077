-- What a race writes, and the machine that is kept.
use Rattle.std.proofs.Common.{◌≡◌, ◌⊎◌, ℕ, List, refl, sym, ap, subst, ◌∙◌, None, Some, Ok, Err, OnOk, OnErr, inl, inr}
use Rattle.std.specs.Prelude.{false, replicate}
use Rattle.std.specs.declared.option.Option.{Option}
use Rattle.std.specs.declared.result.Result.{Result}
use Rattle.outside.specs.Sink.{Takes, Writes}
use Rattle.outside.proofs.Took.{Takes-nil, TakesPrefix-all, TakesPrefix-nil}
use Rattle.mem_base.specs.declared.script.faults.BadScript.{BadScript}
use Rattle.mem_base.specs.lists.Every.{Every}
use Rattle.mem_base.specs.map.Limits.{most_passes}
use Rattle.mem_base.specs.script.RefusalLines.{bad_line}
use Rattle.mem_base.specs.script.Race.{IsAlone, IsTextOfRace, phases_of}
use Rattle.mem_base.specs.script.Run.{text_of}
use Rattle.mem_base.specs.script.Scripts.{Line, Meaning}
use Rattle.run_laws.specs.Fitting.{AreFitting}
use Rattle.race_laws.proofs.StoppedEnds.{races_exist}
use Rattle.config_desk.specs.LawfulDesks.{IsLawfulDesk}
use Rattle.config_desk.specs.SeenLaws.{HasSeenAll}
use Rattle.race_run.proofs.HandedOn.{ConfigState, RunFault, Write}
use Rattle.race_run.specs.Racing.{HasStopped, TakesOne}
use Rattle.top_runs.specs.declared.endings.Ending.{Ending}
use Rattle.top_runs.specs.declared.endings.Ending.TheVariants as endings
use Rattle.top_call.specs.RacedText.{IsRacedText, WritesPlain, WritesRaceOf}
use Rattle.top_runs.specs.Says.{Says}
use Rattle.top_runs.specs.Statuses.{IfBad}
use Rattle.top_runs.proofs.RunLaws.{if_said, meant, no_lines, other_than}

memory_done : endings.Memory ≡ endings.Done → ⊥
memory_done e = cc

memory_read : endings.Memory ≡ endings.ReadFault → ⊥
memory_read e = cc

read_done : endings.ReadFault ≡ endings.Done → ⊥
read_done e = cc

write_done : endings.WriteFault ≡ endings.Done → ⊥
write_done e = cc

write_read : endings.WriteFault ≡ endings.ReadFault → ⊥
write_read e = cc

abbrev lines_in_it : Meaning → List Line → List Line
lines_in_it (Ok lines) others = lines
lines_in_it (Err bad) others = others

same_lines : (lines others : List Line) → meant lines ≡ meant others → lines ≡ others
same_lines lines others e = ap (λ (m : Meaning). lines_in_it m lines) e

-- each script has a text as a race
pub some_text : (script : Meaning) → ((lines : List Line) → script ≡ Ok lines → AreFitting lines) → (text : List ℕ) × IsRacedText script text
some_text (Ok lines) fits = let race = races_exist lines (fits lines refl) in (race.1, (race.0, race.2))
some_text (Err bad) fits = (bad_line bad, refl)

module _ {K : Type 0} (written : K → Option (List ℕ)) (holds : K → List ℕ → Type 0) where
  -- it ended before anything was written
  pub nothing_raced : (script : Meaning) (sink : K) (ending : Ending) → ((lines : List Line) → script ≡ Ok lines → AreFitting lines)
      → (ending ≡ endings.Memory) ⊎ (ending ≡ endings.ReadFault) → WritesRaceOf written holds script sink sink None ending
  nothing_raced script sink ending fits which = record {
    done = λ e. absurd (not_done which e);
    kept = λ n. refl;
    plain = λ lines e all. record { whole = λ d. absurd (not_done which d); part = TakesPrefix-nil written holds sink (text_of lines) };
    bad = none_bad which;
    read = λ e. Takes-nil written holds sink;
    prefix = let text = some_text script fits in (text.0, text.1, TakesPrefix-nil written holds sink text.0);
  }
    where
      not_done : (ending ≡ endings.Memory) ⊎ (ending ≡ endings.ReadFault) → ending ≡ endings.Done → ⊥
      not_done (inl m) e = memory_done (sym m ∙ e)
      not_done (inr r) e = read_done (sym r ∙ e)

      none_bad : (ending ≡ endings.Memory) ⊎ (ending ≡ endings.ReadFault)
          → IfBad ending (λ fault. (script ≡ Err fault) × Takes written holds sink sink (bad_line fault))
      none_bad (inl m) = subst (λ e. IfBad e (λ fault. (script ≡ Err fault) × Takes written holds sink sink (bad_line fault))) (sym m) tt
      none_bad (inr r) = subst (λ e. IfBad e (λ fault. (script ≡ Err fault) × Takes written holds sink sink (bad_line fault))) (sym r) tt

  -- the line of what is no script was said
  pub refused_race : (write_faults : K → ℕ) (script : Meaning) (fault : BadScript) (sink sink' : K) (ending : Ending) → script ≡ Err fault
      → Says written holds write_faults (bad_line fault) (endings.BadScript fault) sink sink' ending
      → WritesRaceOf written holds script sink sink' None ending
  refused_race write_faults script fault sink sink' ending same says = record {
    done = λ e. absurd (other_than ending fault endings.Done says.only (λ o. cc) (λ o. cc) (λ o. cc) e);
    kept = λ n. refl;
    plain = λ lines e all. absurd (no_lines script fault lines same e);
    bad = if_said ending fault (λ f. (script ≡ Err f) × Takes written holds sink sink' (bad_line f)) says.only (λ e. (same, says.whole e));
    read = λ e. absurd (other_than ending fault endings.ReadFault says.only (λ o. cc) (λ o. cc) (λ o. cc) e);
    prefix = (bad_line fault, subst (λ (m : Meaning). IsRacedText m (bad_line fault)) (sym same) refl, says.prefix);
  }

  -- the race was done

  raced_by : (write_faults : K → ℕ) (lines : List Line) (sink sink' : K) (c : ConfigState) (x : Unit {0})
      → TakesOne written holds sink sink' (IsTextOfRace lines c.seat.seen)
      → (Every IsAlone (phases_of lines) → Writes {T = Unit {0}} {E = RunFault} written holds write_faults sink sink' (text_of lines) Write (Ok x))
      → c.seat.out ≡ replicate most_passes false → HasSeenAll c.seat → IsLawfulDesk c
      → WritesRaceOf written holds (Ok lines) sink sink' (Some c) endings.Done
  raced_by write_faults lines sink sink' c x took run home all lawful = record {
    done = λ e. (lines, c, refl, refl, record { home = home; all = all; text = took.0; race = took.2; lawful = lawful; took = took.1 });
    kept = λ n. absurd (n refl);
    plain = λ others e all. plain_done others (same_lines lines others e) all;
    bad = tt;
    read = λ e. cc;
    prefix = (took.0, (c.seat.seen, took.2), TakesPrefix-all written holds sink sink' took.0 took.1);
  }
    where
      plain_done : (others : List Line) → lines ≡ others → Every IsAlone (phases_of others) → WritesPlain written holds others sink sink' endings.Done
      plain_done others is all = subst (λ (ls : List Line). Every IsAlone (phases_of ls) → WritesPlain written holds ls sink sink' endings.Done) is
          (λ alone. let wrote = run alone in record {
            whole = λ d. wrote.all;
            part = TakesPrefix-all written holds sink sink' (text_of lines) wrote.all;
          }) all

  pub raced : (write_faults : K → ℕ) (lines : List Line) (sink sink' : K) (c : ConfigState) (r : Result (Unit {0}) RunFault) (x : Unit {0}) → r ≡ Ok x
      → OnOk r (TakesOne written holds sink sink' (IsTextOfRace lines c.seat.seen))
      → (Every IsAlone (phases_of lines) → Writes written holds write_faults sink sink' (text_of lines) Write r)
      → c.seat.out ≡ replicate most_passes false → HasSeenAll c.seat → IsLawfulDesk c
      → WritesRaceOf written holds (Ok lines) sink sink' (Some c) endings.Done
  raced write_faults lines sink sink' c r x is whole run home seen lawful =
      raced_by write_faults lines sink sink' c x
      (subst (λ (z : Result (Unit {0}) RunFault). OnOk z (TakesOne written holds sink sink' (IsTextOfRace lines c.seat.seen))) is whole)
      (λ all. subst (λ (z : Result (Unit {0}) RunFault). Writes written holds write_faults sink sink' (text_of lines) Write z) is (run all)) home seen lawful

  -- it stopped

  stopped_by : (write_faults : K → ℕ) (lines : List Line) (sink sink' : K) (c : ConfigState) (fault : RunFault) (ending : Ending)
      → (ending ≡ endings.WriteFault) ⊎ (ending ≡ endings.Memory)
      → TakesOne written holds sink sink' (HasStopped lines c)
      → (Every IsAlone (phases_of lines) → Writes {T = Unit {0}} {E = RunFault} written holds write_faults sink sink' (text_of lines) Write (Err fault))
      → WritesRaceOf written holds (Ok lines) sink sink' None ending
  stopped_by write_faults lines sink sink' c fault ending which took run = record {
    done = λ e. absurd (not_done which e);
    kept = λ n. refl;
    plain = λ others e all. plain_part others (same_lines lines others e) all;
    bad = none_bad which;
    read = λ e. absurd (not_read which e);
    prefix = let f = took.2.fault in (f.text, (f.history, f.race), (took.0, f.prefix.0, sym f.prefix.1, took.1));
  }
    where
      not_done : (ending ≡ endings.WriteFault) ⊎ (ending ≡ endings.Memory) → ending ≡ endings.Done → ⊥
      not_done (inl m) e = write_done (sym m ∙ e)
      not_done (inr r) e = memory_done (sym r ∙ e)

      not_read : (ending ≡ endings.WriteFault) ⊎ (ending ≡ endings.Memory) → ending ≡ endings.ReadFault → ⊥
      not_read (inl m) e = write_read (sym m ∙ e)
      not_read (inr r) e = memory_read (sym r ∙ e)

      none_bad : (ending ≡ endings.WriteFault) ⊎ (ending ≡ endings.Memory)
          → IfBad ending (λ f. (Ok lines ≡ Err f) × Takes written holds sink sink' (bad_line f))
      none_bad (inl m) = subst (λ e. IfBad e (λ f. (Ok lines ≡ Err f) × Takes written holds sink sink' (bad_line f))) (sym m) tt
      none_bad (inr r) = subst (λ e. IfBad e (λ f. (Ok lines ≡ Err f) × Takes written holds sink sink' (bad_line f))) (sym r) tt

      plain_part : (others : List Line) → lines ≡ others → Every IsAlone (phases_of others) → WritesPlain written holds others sink sink' ending
      plain_part others is all = subst (λ (ls : List Line). Every IsAlone (phases_of ls) → WritesPlain written holds ls sink sink' ending) is
          (λ alone. let wrote = run alone in record { whole = λ d. absurd (not_done which d); part = wrote.prefix }) all

  pub race_stopped : (write_faults : K → ℕ) (lines : List Line) (sink sink' : K) (c : ConfigState) (r : Result (Unit {0}) RunFault) (fault : RunFault)
      (ending : Ending) → (ending ≡ endings.WriteFault) ⊎ (ending ≡ endings.Memory) → r ≡ Err fault
      → OnErr r (TakesOne written holds sink sink' (HasStopped lines c))
      → (Every IsAlone (phases_of lines) → Writes written holds write_faults sink sink' (text_of lines) Write r)
      → WritesRaceOf written holds (Ok lines) sink sink' None ending
  race_stopped write_faults lines sink sink' c r fault ending which is part run =
      stopped_by write_faults lines sink sink' c fault ending which
      (subst (λ (z : Result (Unit {0}) RunFault). OnErr z (TakesOne written holds sink sink' (HasStopped lines c))) is part)
      (λ all. subst (λ (z : Result (Unit {0}) RunFault). Writes written holds write_faults sink sink' (text_of lines) Write z) is (run all))
