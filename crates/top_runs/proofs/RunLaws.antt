-- What a source had, and how a run or a race of its bytes ends.
use Rattle.std.proofs.Common.{◌≡◌, ◌⊎◌, ◌<◌, ◌≤◌, ◌∙◌, ℕ, List, [], ◌++◌, cond, eqb, refl, sym, ap, arith, None, Some, Ok, Err, length, subst, inl, inr}
use Rattle.std.specs.declared.option.Option.{Option}
use Rattle.std.proofs.lemmas.List.{append-nil, length-append}
use Rattle.std.proofs.lemmas.Bool.{lt-leb}
use Rattle.std.specs.List.{slice_split}
use Rattle.outside.specs.Causes.{Rose}
use Rattle.outside.specs.Source.{AllCame, SomeCame}
use Rattle.outside.specs.Sink.{Takes, TakesPrefix}
use Rattle.outside.proofs.Took.{Takes-nil, TakesPrefix-nil}
use Rattle.mem_base.specs.declared.script.faults.BadScript.{BadScript}
use Rattle.mem_base.specs.declared.script.faults.Cause.TheVariants.{Long}
use Rattle.mem_base.specs.declared.script.places.Section.TheVariants.{Start}
use Rattle.mem_base.specs.script.RefusalLines.{bad_line}
use Rattle.mem_base.specs.script.Run.{text_of}
use Rattle.mem_base.specs.script.Scripts.{Line, Meaning, bad, most_text, script_from, script_of}
use Rattle.run_laws.proofs.EachCommand.{runs_are_lawful}
use Rattle.top_runs.specs.declared.endings.Ending.{Ending}
use Rattle.top_runs.specs.declared.endings.Ending.TheVariants as endings
use Rattle.top_runs.specs.ReadScript.{Came, Had}
use Rattle.top_runs.specs.Runs.{Runs, RunsBy, ending_of}
use Rattle.top_runs.specs.Says.{Says}
use Rattle.top_runs.specs.Statuses.{IfBad}
use Rattle.top_runs.specs.WrittenText.{WritesTextOf, text_of_script}

-- there is something that a source had
pub had_any : (left : Option (List ℕ)) → (bytes : List ℕ) × Had left bytes
had_any None = ([], tt)
had_any (Some known) = (known, refl)

-- what came to the end is what it had
pub had_all : (left left' : Option (List ℕ)) (bytes : List ℕ) → AllCame left left' bytes → Had left bytes
had_all None left' bytes came = tt
had_all (Some known) None bytes came = absurd came.came
had_all (Some known) (Some rest) bytes came = came.came ∙ ap (λ r. bytes ++ r) came.at_end ∙ append-nil bytes

-- more than the most came
pub had_long : (left left' : Option (List ℕ)) → SomeCame left left' (λ bytes. most_text < length bytes)
    → (bytes : List ℕ) × Had left bytes
    × (most_text < length bytes)
had_long None left' came = (came.0, tt, came.2)
had_long (Some known) None came = absurd came.1
had_long (Some known) (Some rest) came = (known, refl, omega (arith, ap length came.1, length-append came.0 rest))

-- a text that is too long is no script
pub script_of-long : (bytes : List ℕ) → most_text < length bytes → script_of bytes ≡ bad 0 Long
script_of-long bytes long = ap (λ b. cond b (script_from Start 1 (slice_split (λ b. eqb b 10) bytes)) (bad 0 Long))
    (lt-leb (length bytes) most_text long)

-- what holds of every line at fault
pub if_bad : (ending : Ending) (fact : BadScript → Type 0) → ((fault : BadScript) → fact fault) → IfBad ending fact
if_bad (endings.BadScript fault) fact each = each fault
if_bad _ fact each = tt

-- where a line at fault was said, or something failed
pub if_said : (ending : Ending) (fault : BadScript) (fact : BadScript → Type 0)
    → (ending ≡ endings.BadScript fault) ⊎ (ending ≡ endings.WriteFault) ⊎ (ending ≡ endings.Memory)
    → (ending ≡ endings.BadScript fault → fact fault)
    → IfBad ending fact
if_said ending fault fact (inl e) said = subst (λ x. IfBad x fact) (sym e) (said e)
if_said ending fault fact (inr (inl e)) said = subst (λ x. IfBad x fact) (sym e) tt
if_said ending fault fact (inr (inr e)) said = subst (λ x. IfBad x fact) (sym e) tt

-- nothing else is the ending
pub other_than : (ending : Ending) (fault : BadScript) (other : Ending)
    → (ending ≡ endings.BadScript fault) ⊎ (ending ≡ endings.WriteFault) ⊎ (ending ≡ endings.Memory)
    → (other ≡ endings.BadScript fault → ⊥) → (other ≡ endings.WriteFault → ⊥) → (other ≡ endings.Memory → ⊥)
    → ending ≡ other → ⊥
other_than ending fault other (inl e) said write memory o = said (sym o ∙ e)
other_than ending fault other (inr (inl e)) said write memory o = write (sym o ∙ e)
other_than ending fault other (inr (inr e)) said write memory o = memory (sym o ∙ e)

pub ends_said : (ending : Ending) (fault : BadScript) (script : Meaning) → script ≡ Err fault
    → (ending ≡ endings.BadScript fault) ⊎ (ending ≡ endings.WriteFault) ⊎ (ending ≡ endings.Memory)
    → (ending ≡ endings.WriteFault → ⊥)
    → (ending ≡ ending_of script) ⊎ (ending ≡ endings.Memory)
ends_said ending fault script same (inl e) fine = inl (e ∙ sym (ap ending_of same))
ends_said ending fault script same (inr (inl e)) fine = absurd (fine e)
ends_said ending fault script same (inr (inr e)) fine = inr e

abbrev pub meant : List Line → Meaning
meant lines = Ok lines

abbrev at_fault : BadScript → Meaning
at_fault fault = Err fault

not_meant : (fault : BadScript) (lines : List Line) → at_fault fault ≡ meant lines → ⊥
not_meant fault lines e = cc

-- what is no script has no commands
pub no_lines : (script : Meaning) (fault : BadScript) (lines : List Line) → script ≡ Err fault → script ≡ Ok lines → ⊥
no_lines script fault lines bad fine = not_meant fault lines (sym bad ∙ fine)

-- the line of a text that is longer than a script may be
abbrev pub long_fault : BadScript
long_fault = record { line = 0; cause = Long }

module _ {S : Type 0} (left : S → Option (List ℕ)) (read_faults : S → ℕ) (source source' : S) (before after : ℕ) (WritesFor : Meaning → Type 0) where
  -- memory ran out before anything was written
  pub memory_by : ((bytes : List ℕ) → WritesFor (script_of bytes)) → RunsBy left read_faults source source' before after endings.Memory WritesFor
  memory_by writes =
      let had = had_any (left source) in record {
        script = script_of had.0;
        reads = record {
          text = (had.0, had.1, refl);
          done = λ e. cc;
          bad = tt;
          short = λ e. cc;
        };
        writes = writes had.0;
        read = λ e. cc;
        write = λ e. cc;
        never = λ e. cc;
        complete = λ told no_read no_write. inr refl;
      }

  -- a read failed before anything was written
  pub read_fault_by : SomeCame (left source) (left source') (λ bytes. length bytes ≤ most_text) → Rose (read_faults source) (read_faults source')
      → ((bytes : List ℕ) → WritesFor (script_of bytes)) → RunsBy left read_faults source source' before after endings.ReadFault WritesFor
  read_fault_by few rose writes =
      let had = had_any (left source) in record {
        script = script_of had.0;
        reads = record {
          text = (had.0, had.1, refl);
          done = λ e. cc;
          bad = tt;
          short = λ e. few;
        };
        writes = writes had.0;
        read = λ e. rose;
        write = λ e. cc;
        never = λ e. cc;
        complete = λ told no_read no_write. absurd (no_read rose);
      }

  -- more came than a script may have, and that is said
  pub too_long_by : (ending : Ending) → SomeCame (left source) (left source') (λ bytes. most_text < length bytes)
      → (ending ≡ endings.BadScript long_fault) ⊎ (ending ≡ endings.WriteFault) ⊎ (ending ≡ endings.Memory)
      → (ending ≡ endings.WriteFault → Rose before after)
      → ((script : Meaning) → script ≡ Err long_fault → WritesFor script) → RunsBy left read_faults source source' before after ending WritesFor
  too_long_by ending long only write writes =
      let had = had_long (left source) (left source') long in
      let same : script_of had.0 ≡ Err long_fault = script_of-long had.0 had.2 in record {
        script = script_of had.0;
        reads = record {
          text = (had.0, had.1, refl);
          done = λ e. absurd (other_than ending long_fault endings.Done only (λ o. cc) (λ o. cc) (λ o. cc) e);
          bad = if_bad ending (λ f. (bytes : List ℕ) × Came (left source) (left source') bytes × (script_of bytes ≡ script_of had.0))
              (λ f. (long.0, record { in_order = long.1; enough = inr long.2 }, script_of-long long.0 long.2 ∙ sym same));
          short = λ e. absurd (other_than ending long_fault endings.ReadFault only (λ o. cc) (λ o. cc) (λ o. cc) e);
        };
        writes = writes (script_of had.0) same;
        read = λ e. absurd (other_than ending long_fault endings.ReadFault only (λ o. cc) (λ o. cc) (λ o. cc) e);
        write = write;
        never = λ e. absurd (other_than ending long_fault endings.Usage only (λ o. cc) (λ o. cc) (λ o. cc) e);
        complete = λ told no_read no_write. ends_said ending long_fault (script_of had.0) same only (λ e. no_write (write e));
      }

  -- all bytes came, and were run
  pub ran_by : (ending : Ending) (bytes given : List ℕ) → AllCame (left source) (left source') bytes
      → (ending ≡ endings.WriteFault → Rose before after) → (ending ≡ endings.Usage → ⊥) × (ending ≡ endings.ReadFault → ⊥)
      → ((Rose before after → ⊥) → (ending ≡ ending_of (script_of given)) ⊎ (ending ≡ endings.Memory)) → given ≡ bytes
      → WritesFor (script_of given) → RunsBy left read_faults source source' before after ending WritesFor
  ran_by ending bytes given came write_fault other as_said e writes =
      let all : AllCame (left source) (left source') given = subst (AllCame (left source) (left source')) (sym e) came in record {
        script = script_of given;
        reads = record {
          text = (given, had_all (left source) (left source') given all, refl);
          done = λ d. (given, all, refl);
          bad = if_bad ending (λ f. (some : List ℕ) × Came (left source) (left source') some × (script_of some ≡ script_of given))
              (λ f. (given, record { in_order = all.came; enough = inl all.at_end }, refl));
          short = λ f. absurd (other.1 f);
        };
        writes = writes;
        read = λ f. absurd (other.1 f);
        write = write_fault;
        never = other.0;
        complete = λ told no_read no_write. as_said no_write;
      }

-- The same of `run`

module _ {S K : Type 0} (left : S → Option (List ℕ)) (read_faults : S → ℕ) (written : K → Option (List ℕ))
    (holds : K → List ℕ → Type 0)
    (write_faults : K → ℕ) where
  pub out_of_memory : (source source' : S) (sink : K) → Runs left read_faults written holds write_faults source source' sink sink endings.Memory
  out_of_memory source source' sink =
      memory_by left read_faults source source' (write_faults sink) (write_faults sink) (λ script. WritesTextOf written holds script sink sink endings.Memory)
      (λ bytes. record {
        done = λ e. cc;
        lawful = runs_are_lawful bytes;
        bad = tt;
        read = λ e. cc;
        prefix = TakesPrefix-nil written holds sink (text_of_script (script_of bytes));
      })

  pub read_fault : (source source' : S) (sink : K) → SomeCame (left source) (left source') (λ bytes. length bytes ≤ most_text)
      → Rose (read_faults source) (read_faults source')
      → Runs left read_faults written holds write_faults source source' sink sink endings.ReadFault
  read_fault source source' sink few rose =
      read_fault_by left read_faults source source' (write_faults sink) (write_faults sink)
      (λ script. WritesTextOf written holds script sink sink endings.ReadFault) few rose (λ bytes. record {
        done = λ e. cc;
        lawful = runs_are_lawful bytes;
        bad = tt;
        read = λ e. Takes-nil written holds sink;
        prefix = TakesPrefix-nil written holds sink (text_of_script (script_of bytes));
      })

  pub too_long : (source source' : S) (sink sink' : K) (ending : Ending)
      → (long : SomeCame (left source) (left source') (λ bytes. most_text < length bytes))
      → Says written holds write_faults (bad_line long_fault) (endings.BadScript long_fault) sink sink' ending
      → Runs left read_faults written holds write_faults source source' sink sink' ending
  too_long source source' sink sink' ending long says =
      too_long_by left read_faults source source' (write_faults sink) (write_faults sink')
      (λ script. WritesTextOf written holds script sink sink' ending) ending long says.only says.write (λ script same. record {
        done = λ e. absurd (other_than ending long_fault endings.Done says.only (λ o. cc) (λ o. cc) (λ o. cc) e);
        lawful = λ lines e. absurd (no_lines script long_fault lines same e);
        bad = if_said ending long_fault (λ f. (script ≡ Err f) × Takes written holds sink sink' (bad_line f)) says.only (λ e. (same, says.whole e));
        read = λ e. absurd (other_than ending long_fault endings.ReadFault says.only (λ o. cc) (λ o. cc) (λ o. cc) e);
        prefix = subst (λ t. TakesPrefix written holds sink sink' t) (ap text_of_script (sym same)) says.prefix;
      })

  pub ran : (source source' : S) (sink sink' : K) (ending : Ending) (bytes given : List ℕ)
      → AllCame (left source) (left source') bytes
      → (ending ≡ endings.Done → (lines : List Line) × (script_of given ≡ Ok lines) × Takes written holds sink sink' (text_of lines))
      → IfBad ending (λ fault. (script_of given ≡ Err fault) × Takes written holds sink sink' (bad_line fault))
      → TakesPrefix written holds sink sink' (text_of_script (script_of given))
      → (ending ≡ endings.WriteFault → Rose (write_faults sink) (write_faults sink'))
      → (ending ≡ endings.Usage → ⊥) × (ending ≡ endings.ReadFault → ⊥)
      → ((Rose (write_faults sink) (write_faults sink') → ⊥) → (ending ≡ ending_of (script_of given)) ⊎ (ending ≡ endings.Memory))
      → given ≡ bytes
      → Runs left read_faults written holds write_faults source source' sink sink' ending
  ran source source' sink sink' ending bytes given came whole at_fault front write_fault other as_said e =
      ran_by left read_faults source source' (write_faults sink) (write_faults sink') (λ script. WritesTextOf written holds script sink sink' ending)
      ending bytes given came write_fault other as_said e (record {
        done = whole;
        lawful = runs_are_lawful given;
        bad = at_fault;
        read = λ f. absurd (other.1 f);
        prefix = front;
      })
