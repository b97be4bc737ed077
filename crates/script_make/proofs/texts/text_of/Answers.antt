use Rattle.std.proofs.Common.{ap, List, ◌++◌, ℕ, ◌+◌, drop, drop_of_length-le}
use Rattle.mem_base.specs.script.Printing.{numbered_commands, printed}
use Rattle.script_make.proofs.TextLaws.{all_pushed, turn}
use Rattle.script_make.proofs.texts.text_of.Goals as goal

pub loop-command-init : goal.loop-command-init
loop-command-init c = ap (λ (xs : List ℕ). xs ++ printed (numbered_commands 1 c.args.commands.now)) c.new-text.ensures.items

pub loop-command-preserved : goal.loop-command-preserved
loop-command-preserved c =
    turn c.loop-command.command-index c.args.commands.now c.command-item.result c.loop-command.text.items c.push_command.new.text.items _
    c.loop-command-test.true c.command-item.is c.in_ok-push_command.ensures c.loop-command.invariant

pub returns : goal.returns
returns c =
    all_pushed (c.loop-command.command-index + 1) (drop c.loop-command.command-index c.args.commands.now) c.loop-command.text.items _
    (drop_of_length-le c.args.commands.now c.loop-command-test.false) c.loop-command.invariant
