use Rattle.mem_base.specs.access.Windows.{window_start}
use Rattle.io_window.proofs.CallLaws.{begun_as, entered_shows, was_entered, direct_looked, looked_none, no_bounce}
use Rattle.io_window.proofs.openings.open.Goals as goal

pub bounced-requires-clause-indirect : goal.bounced-requires-clause-indirect
bounced-requires-clause-indirect c =
    looked_none c.generation.result.now c.enter_unless-stays.new.pass (window_start c.args.space c.args.addr c.args.write) c.args.len c.memory_at.result
    c.generation.ensures c.memory_at.ensures c.in-None.is

pub returns-in-Some : goal.returns-in-Some
returns-in-Some c = record {
  looked = c.enter_unless-stays.new.pass;
  begun = begun_as c.enter_unless-stays.result _ c.args.vcpu c.enter_unless-stays.new.pass c.into_parts-pass.ensures.pass c.enter_unless-stays.ensures;
  shown = entered_shows c.enter_unless-stays.new.pass c.enter_unless-stays.ensures.inside c.has_seen_legal.ensures.shown;
  opened =
      direct_looked c.generation.result.now c.enter_unless-stays.new.pass c.enter_unless-stays.result _
      (window_start c.args.space c.args.addr c.args.write) c.args.len c.args.bounce _ c.memory_at.result c.in-Some.memory c.in-Some.count
      c.generation.ensures c.memory_at.ensures c.in-Some.is
      (was_entered c.enter_unless-stays.result _ c.args.vcpu c.enter_unless-stays.new.pass c.into_parts-pass.ensures.pass c.enter_unless-stays.ensures)
      c.bytes_of.ensures.room;
}

pub returns-in-None-bounce : goal.returns-in-None-bounce
returns-in-None-bounce c =
    no_bounce c.enter_unless-stays.result _ c.args.vcpu c.enter_unless-stays.new.pass c.leave_unless-number.new.pass c.new.result
    (window_start c.args.space c.args.addr c.args.write) c.args.bounce c.leave_unless-number.result c.into_parts-pass.ensures.pass
    c.enter_unless-stays.ensures c.leave_unless-number.ensures c.new.ensures c.in-None-bounce.is
    (looked_none c.generation.result.now c.enter_unless-stays.new.pass (window_start c.args.space c.args.addr c.args.write) c.args.len c.memory_at.result
    c.generation.ensures c.memory_at.ensures c.in-None.is)
