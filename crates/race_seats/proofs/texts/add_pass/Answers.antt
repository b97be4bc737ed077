use Rattle.std.proofs.Common.{Option, ◌++◌, ap, sym, ◌∙◌}
use Rattle.std.specs.Prelude.{flat_map}
use Rattle.mem_base.specs.machine.Passes.{pass_id}
use Rattle.mem_base.specs.script.RaceLines.{said_text}
use Rattle.mem_base.specs.script.Spelling.{Text}
use Rattle.race_block.specs.Resolving.{tasks_in}
use Rattle.race_block.specs.Texts.{lines_said}
use Rattle.race_seats.specs.Texts.{text_or}
use Rattle.script_names.specs.Tables.{printed_names}
use Rattle.race_seats.proofs.texts.add_pass.Goals as goal

pub returns-in_ok-bytes-in-Some : goal.returns-in_ok-bytes-in-Some
returns-in_ok-bytes-in-Some c =
    let names = printed_names c.args.names.now in
    let listed : Text = flat_map (said_text names c.args.journal.now)
    (lines_said names (pass_id c.args.pass.now.vcpu.number) (tasks_in c.args.pass.now.lines) c.args.pass.now.got.items c.args.clerk.now.got) in
    c.in_ok-bytes-in-Some.ensures
    ∙ ap (λ (t : Text). c.args.text.now ++ t) (c.as_bytes.ensures ∙ ap (λ (t : Option Text). text_or t listed) (sym c.in-Some.is))
