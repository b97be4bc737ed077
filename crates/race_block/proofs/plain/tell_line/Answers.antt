use Rattle.std.proofs.Common.{ap, subst, sym, ◌∙◌}
use Rattle.mem_base.specs.declared.script.commands.Command.{Command}
use Rattle.mem_base.specs.declared.script.commands.Command.TheVariants.{Pass}
use Rattle.mem_base.specs.declared.script.commands.PassCommand.{PassCommand}
use Rattle.race_block.specs.Lines.{HasTold}
use Rattle.race_block.proofs.plain.tell_line.Goals as goal

pub returns-in-Read-clause-told : goal.returns-in-Read-clause-told
returns-in-Read-clause-told g c =
    subst (λ (x : Command). HasTold c.args.spaces.now (c.args.own.now.line.now.0, x) c.args.clerk.now c.args.vcpu c.args.text.now c.tell_read-told.result
    c.args.clerk.now c.tell_read-told.new.vcpu c.tell_read-told.new.text)
    (sym (c.in-Pass.is ∙ ap (λ (command : PassCommand). Pass c.in-Pass.pass command) c.in-Read.is)) (c.tell_read-told.ensures.told c.in-Pass.pass c.args.clerk.now)

pub returns-in-Write-clause-told : goal.returns-in-Write-clause-told
returns-in-Write-clause-told g c =
    subst (λ (x : Command). HasTold c.args.spaces.now (c.args.own.now.line.now.0, x) c.args.clerk.now c.args.vcpu c.args.text.now c.tell_write-told.result
    c.args.clerk.now c.tell_write-told.new.vcpu c.tell_write-told.new.text)
    (sym (c.in-Pass.is ∙ ap (λ (command : PassCommand). Pass c.in-Pass.pass command) c.in-Write.is)) (c.tell_write-told.ensures.told c.in-Pass.pass c.args.clerk.now)
