use Rattle.std.proofs.Common.{refl}
use Rattle.flat_simplify.proofs.MergeLaws.{simplified, only_simplified, view_simplified}
use Rattle.flat_simplify.proofs.simplify.Goals as goal

pub returns-clause-shown : goal.returns-clause-shown
returns-clause-shown c = (simplified _ _ _ _ _ _ c.into_parts-ranges.ensures.value c.into_parts-ranges.ensures.paths refl c.new.ensures
    c.merged.ensures.ranges c.merged.ensures.merged c.merged.ensures.paths c.merged.ensures.shown).shown

pub returns-clause-view : goal.returns-clause-view
returns-clause-view c f s t =
    view_simplified f s c.args.pieces c.new.result
    (simplified _ _ _ _ _ _ c.into_parts-ranges.ensures.value c.into_parts-ranges.ensures.paths refl c.new.ensures c.merged.ensures.ranges
    c.merged.ensures.merged c.merged.ensures.paths c.merged.ensures.shown) t

pub returns-clause-only : goal.returns-clause-only
returns-clause-only c other h m p e =
    only_simplified c.args.pieces c.new.result other
    (simplified _ _ _ _ _ _ c.into_parts-ranges.ensures.value c.into_parts-ranges.ensures.paths refl c.new.ensures c.merged.ensures.ranges
    c.merged.ensures.merged c.merged.ensures.paths c.merged.ensures.shown) h m p e
