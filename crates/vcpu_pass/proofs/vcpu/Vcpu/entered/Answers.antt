use Rattle.std.proofs.Common.{sym}
use Rattle.vcpu_pass.proofs.CallLaws.{entered_is}
use Rattle.vcpu_pass.proofs.vcpu.Vcpu.entered.Goals as goal

pub returns : goal.returns
returns c = rw (sym c.self.view_is) (entered_is c.entered.result c.self.inside.pass.edition c.entered.ensures)
