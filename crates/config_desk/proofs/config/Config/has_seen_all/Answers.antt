use Rattle.std.proofs.Common.{ap, subst}
use Rattle.config_desk.specs.Configs.{ConfigState}
use Rattle.config_desk.specs.SeenLaws.{HasSeenAll}
use Rattle.config_desk.proofs.config.Config.has_seen_all.Goals as goal

pub returns : goal.returns
returns c = subst HasSeenAll (ap (λ (x : ConfigState). x.seat) c.self.view_is) c.sees_whole.ensures
