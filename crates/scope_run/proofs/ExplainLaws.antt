-- Refusals, one after another.
use Rattle.std.proofs.Common.{◌≡◌, ◌<◌, ◌+◌, ℕ, List, [], ◌++◌, length, take, get_or, refl, sym, ap, subst, ◌∙◌, append_assoc, Err}
use Rattle.mem_base.specs.declared.script.faults.BadScript.{BadScript}
use Rattle.mem_base.specs.script.RefusalLines.{refused_line}
use Rattle.mem_base.specs.script.Scripts.{Meaning, script_of}
use Rattle.mem_base.specs.script.Spelling.{Text}
use Rattle.script_explain.specs.Faults.{Adds, TellsFault}
use Rattle.script_explain.specs.Told.{GoesOn}
use Rattle.script_map.specs.Left.{Left}
use Rattle.script_map.specs.Reads.{IfBad, IsLeftByText}
use Rattle.script_map.specs.declared.reading.MapStop.{MapStop}
use Rattle.script_map.specs.declared.reading.MapStop.TheVariants as stops
use Rattle.script_map.specs.Refusals.{Refused}
use Rattle.scope_run.specs.Explains.{Explains, TellsRefusal}
use Rattle.scope_run.specs.Scripts.{TellsAll}
use Rattle.scope_run.proofs.Parts.{Grown, grown_more}

pub refusal_next : (rs : List Refused) (i : ℕ) (r : Refused) (start old new : Text) (line : ℕ) (words : Text) → i < length rs → r ≡ get_or rs i r
    → Grown TellsRefusal (take i rs) start old → line ≡ r.line → words ≡ r.words → GoesOn old (refused_line line words) new
    → Grown TellsRefusal (take (i + 1) rs) start new
refusal_next rs i r start old new line words l is g e f h =
    let same : refused_line line words ≡ refused_line r.line r.words = (λ j. refused_line (e j) (f j)) in
    grown_more TellsRefusal rs i r r start old new (refused_line r.line r.words ++ h.0) l is g
    (h.1 ∙ ap (λ (t : Text). (old ++ t) ++ h.0) same ∙ append_assoc old (refused_line r.line r.words) h.0) (h.0, refl)

pub explained : (text : Text) (m : Left) (told : Text) → IsLeftByText text m → TellsAll TellsRefusal m.refused told → Explains text (script_of text) told
explained text m told h t =
    subst (λ (x : Meaning). Explains text x told) (sym h.1) (subst (λ (rs : List Refused). TellsAll TellsRefusal rs told) h.2.refused t)

pub explained_bad : (text told : Text) (stop : MapStop) (fault : BadScript) → stop ≡ stops.Bad fault → IfBad stop (script_of text)
    → TellsFault text fault told → Explains text (script_of text) told
explained_bad text told stop fault is h x =
    let e : script_of text ≡ Err fault = subst (λ (s : MapStop). IfBad s (script_of text)) is h in
    subst (λ (m : Meaning). Explains text m told) (sym e) x

-- the fault alone
pub fault_told : (text : Text) (fault : BadScript) (told : Text) → Adds (TellsFault text fault) [] told → TellsFault text fault told
fault_told text fault told h = subst (TellsFault text fault) (sym h.1) h.2
