use Rattle.config_desk.proofs.SettlingLaws.{is_settled, held_each_time, are_held, number_is, cause_is, named_is, left_is}
use Rattle.config_desk.proofs.config.Config.configure_settled.Goals as goal

pub returns-clause-settled : goal.returns-clause-settled
returns-clause-settled g c =
    is_settled c.args.patience.now c.args.self.now c.try_on.new.self c.args.event.now c.try_on.result c.try_on.ensures

pub returns-clause-held : goal.returns-clause-held
returns-clause-held g c =
    held_each_time c.args.patience.now c.args.self.now c.try_on.new.self c.args.event.now c.try_on.result c.try_on.ensures

pub returns-clause-memory : goal.returns-clause-memory
returns-clause-memory g c =
    are_held c.args.patience.now c.args.self.now c.try_on.new.self c.args.event.now c.try_on.result c.try_on.ensures

pub returns-clause-number : goal.returns-clause-number
returns-clause-number g c =
    number_is c.args.patience.now c.args.self.now c.try_on.new.self c.args.event.now c.try_on.result c.try_on.ensures

pub returns-clause-cause : goal.returns-clause-cause
returns-clause-cause g c =
    cause_is c.args.patience.now c.args.self.now c.try_on.new.self c.args.event.now c.try_on.result c.try_on.ensures

pub returns-clause-named : goal.returns-clause-named
returns-clause-named g c =
    named_is c.args.patience.now c.args.self.now c.try_on.new.self c.args.event.now c.try_on.result c.try_on.ensures

pub returns-clause-left : goal.returns-clause-left
returns-clause-left g c =
    left_is c.args.patience.now c.args.self.now c.try_on.new.self c.args.event.now c.try_on.result c.try_on.ensures
