use Rattle.config_desk.proofs.ConfigLaws.{is_config, opens}
use Rattle.config_desk.proofs.config.Config.with_seat.Goals as goal

pub invariant_of-result : goal.invariant_of-result
invariant_of-result c = is_config c.args.desk c.args.seat c.args.words c.args.passes c.requires.desk c.requires.dropped c.requires.passes c.requires.words
    c.requires.fresh

pub returns-clause-part : goal.returns-clause-part
returns-clause-part c = opens c.args.desk c.args.seat c.args.words c.args.passes c.requires.desk c.requires.dropped c.requires.passes c.requires.words
    c.requires.fresh
