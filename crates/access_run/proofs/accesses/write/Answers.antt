use Rattle.std.proofs.Common.{rules, [], subst}
use Rattle.access_reach.proofs.HandedOn.{access_is_planned}
use Rattle.access_run.specs.Runs.{TakesAll}
use Rattle.mem_base.specs.access.AccessSteps.{writing}
use Rattle.mem_base.specs.access.Access.{access}
use Rattle.mem_base.specs.access.Plans.{plan}
use Rattle.access_reach.specs.Asking.{outcome}
use Rattle.access_reach.specs.Reaching.{HasReached}
use Rattle.access_run.specs.WordReplies.{AsksWords}
use Rattle.access_run.proofs.AccessLaws.{done_at}
use Rattle.access_run.proofs.WordLaws.{plan_taken, reached_by_words}
use Rattle.access_run.proofs.accesses.write.Goals as goal

pub returns-clause-result : goal.returns-clause-result
returns-clause-result g c =
    let hand = c.args.hand.now in
    let f = (g.H.Entered.shows hand).forest in
    let e = c.write_by.ensures in
    let h : HasReached (AsksWords g.H.Entered.makes (g.H.Entered.pass hand) f) hand (plan f c.args.space c.args.addr (writing c.args.bytes.now))
    (outcome [] c.write_by.result) c.write_by.new.bus.hand.now =
    record { replies = e.replies; made = e.made.1; each = e.each; told = e.told } in
    (reached_by_words g.H.Entered.makes (g.H.Entered.pass hand) f c.args.space c.args.addr (writing c.args.bytes.now) hand c.write_by.new.bus.hand.now
    (outcome [] c.write_by.result) h).1

pub returns-clause-done : goal.returns-clause-done
returns-clause-done g c =
    let hand = c.args.hand.now in
    let f = (g.H.Entered.shows hand).forest in
    let pass = g.H.Entered.pass hand in
    let t = writing c.args.bytes.now in
    let e = c.write_by.ensures in
    let kept = e.made.0 in
    let h : HasReached (AsksWords g.H.Entered.makes pass f) hand (plan f c.args.space c.args.addr t) (outcome [] c.write_by.result)
    c.write_by.new.bus.hand.now = record { replies = e.replies; made = e.made.1; each = e.each; told = e.told } in
    done_at g.H.Entered.makes pass hand c.write_by.new.bus.hand.now _ (access f c.args.space c.args.addr t) []
    (reached_by_words g.H.Entered.makes pass f c.args.space c.args.addr t hand c.write_by.new.bus.hand.now (outcome [] c.write_by.result) h).0
    (search (rules, kept))

pub write_by-requires : goal.write_by-requires
write_by-requires g c =
    let f = (g.H.Entered.shows c.args.hand.now).forest in
    plan_taken (g.H.Writes.takes c.args.hand.now) f (plan f c.args.space c.args.addr (writing c.args.bytes.now))
    (subst (TakesAll (g.H.Writes.takes c.args.hand.now)) (access_is_planned f c.args.space c.args.addr (writing c.args.bytes.now)) c.requires)
