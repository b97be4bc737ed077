use Rattle.script_check.proofs.BlockLaws.{view_line}
use Rattle.script_check.proofs.blocks.add_line.Goals as goal

pub returns-in_ok-push-in-View : goal.returns-in_ok-push-in-View
returns-in_ok-push-in-View c = λ rest.
    rw (c.in_ok-push-in-View.ensures.items, c.replace.ensures.after, c.replace.ensures.value, c.new.ensures, c.in-View.is)
    (view_line c.args.done.now.items c.args.last.now rest)
