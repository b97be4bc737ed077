use Rattle.std.proofs.Common.{rules}
use Rattle.view_diff.proofs.Binding.{bound_now, grown, told, told_same}
use Rattle.view_diff.proofs.numbers.number.Goals as goal

pub returns-in_err-number-clause-told : goal.returns-in_err-number-clause-told
returns-in_err-number-clause-told c =
    told_same c.args.labels.now c.bind.new.self (search rules) c.requires

pub returns-clause-told : goal.returns-clause-told
returns-clause-told c =
    told c.args.labels.now c.bind.new.self c.args.label.now c.in_ok-number.number c.in_ok-number.ensures.bound c.in_ok-number.ensures.made
    c.in_ok-number.ensures.number c.requires

pub returns-clause-grows : goal.returns-clause-grows
returns-clause-grows c =
    grown c.args.labels.now.bound c.bind.new.self.bound c.args.label.now c.in_ok-number.number c.in_ok-number.ensures.bound

pub returns-clause-number : goal.returns-clause-number
returns-clause-number c =
    bound_now c.args.labels.now.bound c.bind.new.self.bound c.args.label.now c.in_ok-number.number c.in_ok-number.ensures.bound (search rules)
