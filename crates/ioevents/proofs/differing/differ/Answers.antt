use Rattle.std.proofs.Common.{sym, subst}
use Rattle.mem_base.specs.lists.Sorting.{IsRising}
use Rattle.mem_base.specs.views.LiveEvents.{live_order}
use Rattle.ioevents.proofs.DifferLaws.{without_rising, share_nothing}
use Rattle.ioevents.proofs.differing.differ.Goals as goal

pub new-requires : goal.new-requires
new-requires c = subst (IsRising live_order) (sym c.in_ok-lost.ensures.lost) (without_rising c.args.old.now c.args.new.now c.requires.old)

pub new-requires-2 : goal.new-requires-2
new-requires-2 c = subst (IsRising live_order) (sym c.in_ok-lost.ensures.gained) (without_rising c.args.new.now c.args.old.now c.requires.new)

pub returns-clause-apart : goal.returns-clause-apart
returns-clause-apart c =
    rw (c.new.ensures, c.new-2.ensures, c.in_ok-lost.ensures.lost, c.in_ok-lost.ensures.gained) (share_nothing c.args.new.now c.args.old.now c.args.old.now)
