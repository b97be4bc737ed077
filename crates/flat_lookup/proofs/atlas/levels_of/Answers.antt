use Rattle.std.proofs.Common.{◌^◌, List, ℕ, sym, subst, arith}
use Rattle.mem_base.specs.declared.views.flat.FlatRange.{FlatRange}
use Rattle.flat_lookup.specs.Levels.{Ascends}
use Rattle.flat_lookup.specs.Atlases.{starts_of}
use Rattle.flat_lookup.proofs.AtlasLaws.{starts_ascend, starts_length}
use Rattle.flat_lookup.proofs.atlas.levels_of.Goals as goal

pub levels_over-requires-clause-ascends : goal.levels_over-requires-clause-ascends
levels_over-requires-clause-ascends c =
    let rs : List FlatRange = c.args.ranges.now in
    let n = starts_length rs in
    let up : Ascends (starts_of rs) = λ (i j : ℕ) l k. starts_ascend 0 (2 ^ 64) rs c.requires.ranges i j l (omega arith) in
    subst Ascends (sym c.in_ok-keys.ensures) up
