use Rattle.std.proofs.Common.{◌∙◌, ap, refl, set}
use Rattle.region_extents.specs.declared.extents.Extent.{Extent}
use Rattle.region_extents.specs.Kept.{undone}
use Rattle.region_extents.proofs.RaiseLaws.{undone_replaced, set_same}
use Rattle.region_extents.proofs.journal.replace.Goals as goal

abbrev none : Extent
none = record { depth = 0; weight = 0 }

pub returns-then-extent-before-2-clause-set : goal.returns-then-extent-before-2-clause-set
returns-then-extent-before-2-clause-set c = set_same c.args.known.now c.args.at none c.args.extent c.requires c.if-extent-before.true c.if-extent-before-2.true

pub returns-clause-undone : goal.returns-clause-undone
returns-clause-undone c =
    ap (λ bs. undone bs (set c.args.known.now c.args.at c.args.extent)) c.in_ok-push.ensures.items
    ∙ undone_replaced c.args.journal.now.items c.args.known.now c.args.at none c.args.extent _ refl
