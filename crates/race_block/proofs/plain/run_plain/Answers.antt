use Rattle.std.proofs.Common.{Bool, ap, refl}
use mathlib.Core.Bool.{not}
use Rattle.race_block.proofs.PlainLaws.{plain_run}
use Rattle.race_block.proofs.plain.run_plain.Goals as goal

pub returns-clause-run : goal.returns-clause-run
returns-clause-run g c =
    let all = c.do_all_plain-vcpu in
    plain_run c.args.names.now c.args.lines.now c.args.clerk c.args.vcpu c.args.bounce _ all.result.2 all.new.text all.ensures.told all.ensures.stopped
    all.ensures.room (λ e. ap (λ (b : Bool). not b) e) refl
