-- What is said of the map of a script is said of the script.
use Rattle.std.proofs.Common.{◌≡◌, List, Option, Result, Ok, Err, sym, subst}
use Rattle.std.specs.Prelude.{IfOk, OnOk}
use Rattle.mem_base.specs.script.Spelling.{Text}
use Rattle.mem_base.specs.script.Scripts.{Line, script_of}
use Rattle.mem_base.specs.script.States.{State}
use Rattle.script_map.specs.Left.{IsLeftBy, Left}
use Rattle.script_map.specs.Reads.{IfBad, IsLeftByText}
use Rattle.script_map.specs.declared.reading.MapStop.{MapStop}
use Rattle.script_map.specs.declared.reading.MapStop.TheVariants as stops
use Rattle.script_memory.specs.Told.{IsToldByText, Told}
use Rattle.scope_run.specs.Scripts.{FailsIn, FailsOn, FailsOnBoth, FailsOnSecond, OfScript, stopped_by, told_by}
use Rattle.scope_run.specs.declared.answers.Fault.{Fault}
use Rattle.scope_run.specs.declared.answers.Fault.TheVariants as faults
use Rattle.scope_run.specs.declared.answers.Which.TheVariants.{First, Second}

pub on_ok : {T E : Type 0} (P Q : Type 0) (r : Result T E) → (P → Q) → OnOk r P → OnOk r Q
on_ok P Q (Ok x) f h = f h
on_ok P Q (Err e) f h = tt

-- two facts of what was answered
pub both_ok : {T E : Type 0} (r : Result T E) (P Q R : T → Type 0) → ((x : T) → P x → Q x → R x) → IfOk r P → IfOk r Q → IfOk r R
both_ok (Ok x) P Q R f p q = f x p q
both_ok (Err e) P Q R f p q = tt

-- a fact of the state that is told
pub of_state : (text : Text) (m : Told) (fact : State → Type 0) → IsToldByText text m → fact m.state → OfScript text (λ lines. fact (told_by text lines))
of_state text m fact h x = (h.0, h.1, subst (λ (t : Told). fact t.state) h.2 x)

-- a fact of the commands
pub of_lines : (text : Text) (m : Left) (fact : List Line → Type 0) → IsLeftByText text m → ((lines : List Line) → IsLeftBy lines m → fact lines)
    → OfScript text fact
of_lines text m fact h give = (h.0, h.1, give h.0 h.2)

-- why a command on a map has no answer
pub fails_on : (text : Text) (m : Told) (space region : Option Text) (fault : Fault) → IsToldByText text m → FailsIn m.state space region fault
    → FailsOn text space region fault
fails_on text m space region (faults.File which) h x = of_state text m (λ s. FailsIn s space region (faults.File which)) h x
fails_on text m space region (faults.Script First bad) h x = absurd x
fails_on text m space region (faults.Script Second bad) h x = of_state text m (λ s. FailsIn s space region (faults.Script Second bad)) h x
fails_on text m space region faults.NoSpace h x = of_state text m (λ s. FailsIn s space region faults.NoSpace) h x
fails_on text m space region faults.NoRegion h x = of_state text m (λ s. FailsIn s space region faults.NoRegion) h x
fails_on text m space region faults.NoAddress h x = of_state text m (λ s. FailsIn s space region faults.NoAddress) h x
fails_on text m space region (faults.Monitor stop) h x = of_state text m (λ s. FailsIn s space region (faults.Monitor stop)) h x
fails_on text m space region faults.Memory h x = tt

-- a text that gives no map
pub stops_on : (text : Text) (space region : Option Text) (stop : MapStop) (fault : Fault) → fault ≡ stopped_by First stop → IfBad stop (script_of text)
    → FailsOn text space region fault
stops_on text space region (stops.Bad bad) fault is h = subst (FailsOn text space region) (sym is) h
stops_on text space region stops.Memory fault is h = subst (FailsOn text space region) (sym is) tt

pub memory_on : (text : Text) (space region : Option Text) (fault : Fault) → fault ≡ faults.Memory → FailsOn text space region fault
memory_on text space region fault is = subst (FailsOn text space region) (sym is) tt

pub stops_on_second : (text : Text) (stop : MapStop) (fault : Fault) → fault ≡ stopped_by Second stop → IfBad stop (script_of text)
    → FailsOnSecond text fault
stops_on_second text (stops.Bad bad) fault is h = subst (FailsOnSecond text) (sym is) h
stops_on_second text stops.Memory fault is h = subst (FailsOnSecond text) (sym is) tt

pub stops_on_first : (first second : Text) (stop : MapStop) (fault : Fault) → fault ≡ stopped_by First stop → IfBad stop (script_of first)
    → FailsOnBoth first second fault
stops_on_first first second (stops.Bad bad) fault is h = subst (FailsOnBoth first second) (sym is) h
stops_on_first first second stops.Memory fault is h = subst (FailsOnBoth first second) (sym is) tt

pub second_fails : (first second : Text) (fault : Fault) → FailsOnSecond second fault → FailsOnBoth first second fault
second_fails first second (faults.Script First bad) x = absurd x
second_fails first second (faults.Script Second bad) x = x
second_fails first second _ x = x
