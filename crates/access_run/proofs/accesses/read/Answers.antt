use Rattle.std.proofs.Common.{rules, length}
use Rattle.mem_base.specs.access.AccessSteps.{reading}
use Rattle.mem_base.specs.access.Access.{access}
use Rattle.mem_base.specs.access.Plans.{plan}
use Rattle.access_reach.specs.Asking.{outcome}
use Rattle.access_reach.specs.Reaching.{HasReached}
use Rattle.access_run.specs.WordReplies.{AsksWords}
use Rattle.access_run.proofs.AccessLaws.{done_at}
use Rattle.access_run.proofs.WordLaws.{reached_by_words}
use Rattle.access_run.proofs.accesses.read.Goals as goal

pub returns-clause-result : goal.returns-clause-result
returns-clause-result g c =
    let hand = c.args.hand.now in
    let f = (g.H.Entered.shows hand).forest in
    let e = c.read_by.ensures in
    let h : HasReached (AsksWords g.H.Entered.makes (g.H.Entered.pass hand) f) hand (plan f c.args.space c.args.addr (reading (length c.args.out.now)))
    (outcome c.read_by.new.out c.read_by.result) c.read_by.new.bus.hand.now =
    record { replies = e.replies; made = e.made.1; each = e.each; told = e.told } in
    (reached_by_words g.H.Entered.makes (g.H.Entered.pass hand) f c.args.space c.args.addr (reading (length c.args.out.now)) hand c.read_by.new.bus.hand.now
    (outcome c.read_by.new.out c.read_by.result) h).1

pub returns-clause-done : goal.returns-clause-done
returns-clause-done g c =
    let hand = c.args.hand.now in
    let f = (g.H.Entered.shows hand).forest in
    let pass = g.H.Entered.pass hand in
    let t = reading (length c.args.out.now) in
    let e = c.read_by.ensures in
    let kept = e.made.0 in
    let h : HasReached (AsksWords g.H.Entered.makes pass f) hand (plan f c.args.space c.args.addr t) (outcome c.read_by.new.out c.read_by.result)
    c.read_by.new.bus.hand.now = record { replies = e.replies; made = e.made.1; each = e.each; told = e.told } in
    done_at g.H.Entered.makes pass hand c.read_by.new.bus.hand.now _ (access f c.args.space c.args.addr t) c.read_by.new.out
    (reached_by_words g.H.Entered.makes pass f c.args.space c.args.addr t hand c.read_by.new.bus.hand.now (outcome c.read_by.new.out c.read_by.result) h).0
    (search (rules, kept))
