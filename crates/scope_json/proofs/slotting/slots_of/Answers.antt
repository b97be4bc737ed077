use Rattle.std.proofs.Common.{◌≡◌, List, subst}
use Rattle.std.proofs.lemmas.Result.{IfOk-weaker}
use Rattle.serde_json.specs.Data.{Data}
use Rattle.mem_base.specs.script.Scripts.{Line}
use Rattle.mem_base.specs.script.Spelling.{Text}
use Rattle.script_map.specs.Left.{Shown, all_shown, first_of, published_in}
use Rattle.scope_run.proofs.HandedOn.{Told, told_of}
use Rattle.scope_json.specs.Tables.{TellsSlots, TellsSlotsIn}
use Rattle.scope_json.proofs.slotting.slots_of.Goals as goal

-- the spaces of a script in the generations that it publishes
slots_whole : (script : Text) (lines : List Line) (m : Told) (gs : List Shown) (items : List Data) → m ≡ told_of script lines
    → gs ≡ published_in (first_of lines) lines → TellsSlotsIn m.state gs items → TellsSlots script lines items
slots_whole script lines m gs items h is t =
    subst (λ (x : Told). TellsSlotsIn x.state (published_in (first_of lines) lines) items) h (subst (λ xs. TellsSlotsIn m.state xs items) is t)

pub returns-in-Ok-clause-told : goal.returns-in-Ok-clause-told
returns-in-Ok-clause-told c = IfOk-weaker c.slots_in-answer.result _ _ (λ a t. (
  t.0,
  slots_whole c.args.text.now c.args.script.now c.in-Ok.history.map
      (all_shown c.in-Ok.history.published.items) t.0 c.in-Ok.ensures.map c.in-Ok.ensures.published t.1,
  t.2,
)) c.slots_in-answer.ensures.told
