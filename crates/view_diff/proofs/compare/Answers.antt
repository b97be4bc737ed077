use Rattle.script_names.specs.Tables.{printed_names}
use Rattle.view_diff.proofs.Binding.{kept}
use Rattle.view_diff.proofs.compare.Goals as goal

pub returns-clause-from : goal.returns-clause-from
returns-clause-from c =
    kept c.renumbered.new.labels.bound c.renumbered-2.new.labels.bound (printed_names c.args.from_names.now) c.args.from.now c.in_ok-old.old
    c.in_ok-new.ensures.grows c.in_ok-old.ensures.view
