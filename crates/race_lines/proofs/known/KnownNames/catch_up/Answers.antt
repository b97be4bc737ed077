use Rattle.iommu_notify.specs.Watchers.{watchers_of}
use Rattle.race_lines.proofs.WatchingLaws.{caught_holds}
use Rattle.race_lines.proofs.known.KnownNames.catch_up.Goals as goal

pub invariant_of-self-2 : goal.invariant_of-self-2
invariant_of-self-2 c = let x = c.self.inside in
    caught_holds x.names x.names x.dropped.items x.gone.items (watchers_of x.notices) c.self.invariant c.args.generation.now.forest
    (watchers_of c.catch_up.new.self) c.in_ok-catch_up.ensures.watchers
