use Rattle.std.proofs.Common.{◌∙◌, ap}
use Rattle.region_extents.specs.Extents.{told_of}
use Rattle.region_extents.proofs.JoinedLaws.{told_kept}
use Rattle.region_extents.proofs.kept.kept_extent.Goals as goal

pub returns : goal.returns
returns c =
    let slots = c.args.slots.now in
    c.told.ensures ∙ ap (λ es. told_of slots es c.args.region) c.as_slice.ensures.value
    ∙ told_kept slots c.args.kept.now.extents.items (c.requires.kept.extents c.if-not-kept.false) c.args.region
