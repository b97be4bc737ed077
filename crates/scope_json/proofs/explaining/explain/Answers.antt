use Rattle.std.proofs.Common.{◌≡◌, ◌∙◌, Bool, true, List, [], Err, ap, sym, subst}
use Rattle.std.proofs.lemmas.Result.{IfOk-weaker}
use Rattle.serde_json.specs.Data.{Data, null}
use Rattle.serde_json.specs.View.{view}
use Rattle.mem_base.specs.declared.script.faults.BadScript.{BadScript}
use Rattle.mem_base.specs.script.Scripts.{Meaning, script_of}
use Rattle.mem_base.specs.script.Spelling.{Text}
use Rattle.script_map.specs.Left.{Left}
use Rattle.script_map.specs.Reads.{IfBad, IsLeftByText}
use Rattle.script_map.specs.Refusals.{Refused}
use Rattle.script_map.specs.declared.reading.MapStop.{MapStop}
use Rattle.script_map.specs.declared.reading.MapStop.TheVariants as stops
use Rattle.scope_json.specs.Explains.{explain_data, explain_mends, explained_data, fault_data}
use Rattle.scope_json.specs.Texts.{has_any}
use Rattle.scope_json.proofs.explaining.explain.Goals as goal

explained : (text : Text) (m : Left) (rs : List Refused) (d : Data) → IsLeftByText text m → rs ≡ m.refused → d ≡ explain_data null rs
    → d ≡ explained_data (script_of text)
explained text m rs d h same is = is ∙ ap (λ (xs : List Refused). explain_data null xs) (same ∙ h.2.refused) ∙ ap explained_data (sym h.1)

mended : (text : Text) (m : Left) (rs : List Refused) (b : Bool) → IsLeftByText text m → rs ≡ m.refused → b ≡ has_any rs
    → b ≡ explain_mends (script_of text)
mended text m rs b h same is = is ∙ ap (λ (xs : List Refused). has_any xs) (same ∙ h.2.refused) ∙ ap explain_mends (sym h.1)

is_bad : (text : Text) (stop : MapStop) (bad : BadScript) → stop ≡ stops.Bad bad → IfBad stop (script_of text) → script_of text ≡ Err bad
is_bad text stop bad is h = subst (λ (s : MapStop). IfBad s (script_of text)) is h

explained_bad : (text : Text) (stop : MapStop) (bad : BadScript) (d : Data) → stop ≡ stops.Bad bad → IfBad stop (script_of text)
    → d ≡ explain_data (fault_data bad) [] → d ≡ explained_data (script_of text)
explained_bad text stop bad d is h e = subst (λ (m : Meaning). d ≡ explained_data m) (sym (is_bad text stop bad is h)) e

mended_bad : (text : Text) (stop : MapStop) (bad : BadScript) (b : Bool) → stop ≡ stops.Bad bad → IfBad stop (script_of text) → b ≡ true
    → b ≡ explain_mends (script_of text)
mended_bad text stop bad b is h e = subst (λ (m : Meaning). b ≡ explain_mends m) (sym (is_bad text stop bad is h)) e

pub returns-in-Ok-clause-data : goal.returns-in-Ok-clause-data
returns-in-Ok-clause-data c = IfOk-weaker c.explain_refused-told.result _ _
    (λ t is. explained c.args.script.now c.in-Ok.map c.refused.result.now
    (view t.value) c.in-Ok.ensures.map c.refused.ensures is) c.explain_refused-told.ensures.data

pub returns-in-Ok-clause-mends : goal.returns-in-Ok-clause-mends
returns-in-Ok-clause-mends c = IfOk-weaker c.explain_refused-told.result _ _
    (λ t is. mended c.args.script.now c.in-Ok.map c.refused.result.now t.something c.in-Ok.ensures.map c.refused.ensures is) c.explain_refused-told.ensures.mends

pub returns-in-Err-Bad-clause-data : goal.returns-in-Err-Bad-clause-data
returns-in-Err-Bad-clause-data c = IfOk-weaker c.explain_bad.result _ _
    (λ t e. explained_bad c.args.script.now c.in-Err-Bad.field-0 c.in-Err-Bad.bad (view t.value) c.in-Err-Bad.field-0-is c.in-Err-Bad.ensures.bad e)
    c.explain_bad.ensures.data

pub returns-in-Err-Bad-clause-mends : goal.returns-in-Err-Bad-clause-mends
returns-in-Err-Bad-clause-mends c = IfOk-weaker c.explain_bad.result _ _
    (λ t e. mended_bad c.args.script.now c.in-Err-Bad.field-0 c.in-Err-Bad.bad t.something c.in-Err-Bad.field-0-is c.in-Err-Bad.ensures.bad e)
    c.explain_bad.ensures.mends
