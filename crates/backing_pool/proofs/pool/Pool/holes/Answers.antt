use Rattle.std.proofs.Common.{◌∙◌, sym, ap, map, subst}
use Rattle.mem_base.specs.access.Places.{holes}
use Rattle.backing_pool.specs.Holes.{hole_of, Ascends}
use Rattle.backing_pool.specs.Backing.{Backing}
use Rattle.backing_pool.proofs.HoleLaws.{holes_ascend}
use Rattle.backing_pool.proofs.RunLaws.{holes_of}
use Rattle.backing_pool.proofs.pool.Pool.holes.Goals as goal

pub returns-clause-holes : goal.returns-clause-holes
returns-clause-holes c =
    ap (map hole_of) c.as_slice.ensures.value ∙ holes_of c.self.inside.words c.self.inside.places.items c.self.inside.holes.items c.self.invariant.holes
    ∙ ap (λ (b : Backing). holes b.pool_words b.places) c.self.view_is

pub returns-clause-ascend : goal.returns-clause-ascend
returns-clause-ascend c = subst Ascends (sym c.as_slice.ensures.value) (holes_ascend _ _ _ _ c.self.invariant.holes)
