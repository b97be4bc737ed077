use Rattle.std.proofs.Common.{◌≡◌, List}
use Rattle.std.proofs.lemmas.Result.{IfOk-weaker}
use Rattle.serde_json.specs.Data.{Data}
use Rattle.serde_json.specs.View.{view}
use Rattle.scope_run.specs.Scripts.{OfScript, told_by}
use Rattle.scope_run.proofs.Facts.{of_state, second_fails, stops_on_first}
use Rattle.scope_json.specs.Diffs.{TellsDiff, diff_data}
use Rattle.scope_json.specs.Texts.{has_any}
use Rattle.scope_json.proofs.differing.diff.Goals as goal
use Rattle.mem_base.proofs.OptionLaws.{if_err}

pub returns-in-Ok-clause-told : goal.returns-in-Ok-clause-told
returns-in-Ok-clause-told c = IfOk-weaker c.diff_with-answer.result _ _
    (λ a t. of_state c.args.first.now c.in-Ok.map (λ s. OfScript c.args.second.now (λ new. (items : List Data)
    × TellsDiff s (told_by c.args.second.now new) items × (view a.value ≡ diff_data items) ×
    (a.something ≡ has_any items))) c.in-Ok.ensures.map t) c.diff_with-answer.ensures.told

pub returns-in-Ok-clause-fails : goal.returns-in-Ok-clause-fails
returns-in-Ok-clause-fails c =
    if_err _ _ c.diff_with-answer.result (λ fault x. second_fails c.args.first.now c.args.second.now fault x) c.diff_with-answer.ensures.fails

pub returns-in-Err-clause-fails : goal.returns-in-Err-clause-fails
returns-in-Err-clause-fails c = stops_on_first c.args.first.now c.args.second.now c.in-Err.stop c.stopped.result c.stopped.ensures c.in-Err.ensures.bad
