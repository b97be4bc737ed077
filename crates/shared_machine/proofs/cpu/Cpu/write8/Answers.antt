use Rattle.std.proofs.Common.{◌≡◌, rules, subst, sym}
use Rattle.std.specs.Prelude.{MatchResult}
use Rattle.vcpu_pass.specs.Calls.{HasRefused, HasWritten8}
use Rattle.shared_machine.proofs.cpu.Cpu.write8.Goals as goal

pub returns : goal.returns
returns c =
    let done = c.write8-done.result in
    let v = c.args.self.now in
    let same : c.new-vcpu.result ≡ v = search rules in
    subst (λ w. MatchResult done (λ a. HasWritten8 v c.args.space c.args.addr c.args.value a w)
    (λ e. HasRefused v c.args.space c.args.addr c.args.value e.number w))
    (sym c.into_parts.ensures.pass)
    (subst (λ u. MatchResult done (λ a. HasWritten8 u c.args.space c.args.addr c.args.value a c.write8-done.new.self)
    (λ e. HasRefused u c.args.space c.args.addr c.args.value e.number c.write8-done.new.self)) same c.write8-done.ensures)
