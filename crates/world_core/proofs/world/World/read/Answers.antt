use Rattle.std.proofs.Common.{rules, ◌≡◌, ap, ◌∙◌}
use Rattle.std.specs.Prelude.{is_some, length}
use Rattle.mem_base.specs.access.AccessSteps.{reading}
use Rattle.mem_base.specs.machine.World.{World}
use Rattle.mem_base.specs.machine.Composites.{accessed}
use Rattle.world_laws.proofs.PassKeeping.{access_keeps}
use Rattle.world_core.proofs.world.World.read.Goals as goal

pub leave_unless-number-requires : goal.leave_unless-number-requires
leave_unless-number-requires c =
    ap (λ o. is_some o) c.read_entered-result.ensures.done.made.inside ∙ c.enter_unless-entered.ensures.inside

pub returns : goal.returns
returns c =
    let w : World = c.args.self.now in
    let v : World = c.leave_unless-number.new.self in
    let is : v ≡ (accessed w c.args.pass c.args.space c.args.addr (reading (length c.args.out.now))).world = search rules in record {
      world = is;
      answer_is = search rules;
      bytes_are = search rules;
      keeps = access_keeps w v c.args.pass c.args.space c.args.addr (reading (length c.args.out.now)) c.requires is;
    }
