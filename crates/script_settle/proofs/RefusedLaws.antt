-- How many commands of a script are refused.
use Rattle.std.proofs.Common.{◌≡◌, ℕ, Result, Err, length, sym, subst}
use Rattle.std.specs.Prelude.{IfErr}
use Rattle.mem_base.specs.script.Scripts.{Meaning}
use Rattle.mem_base.specs.script.Spelling.{Text}
use Rattle.script_map.specs.Left.{Left}
use Rattle.script_map.specs.Reads.{IfBad, IsLeftByText}
use Rattle.script_map.specs.declared.reading.MapStop.{MapStop}
use Rattle.script_map.specs.declared.reading.MapStop.TheVariants.{Memory}
use Rattle.script_settle.specs.Refused.{HasRefused}

pub has_refused : (text : Text) (m : Left) (count : ℕ) → IsLeftByText text m → count ≡ length m.refused → HasRefused text count
has_refused text m count h e = record { left = m; reads = h; refused = sym e }

pub memory_is_bad : (meaning : Meaning) (stop : MapStop) → stop ≡ Memory → IfBad stop meaning
memory_is_bad meaning stop e = subst (λ (s : MapStop). IfBad s meaning) (sym e) tt

pub if_err_is : {T E : Type 0} (P : E → Type 0) (r : Result T E) (e : E) → r ≡ Err e → P e → IfErr r P
if_err_is {T} {E} P r e is h = subst (λ (q : Result T E). IfErr q P) (sym is) h
