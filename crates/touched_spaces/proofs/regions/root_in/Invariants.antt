use Rattle.std.proofs.Common.{◌≡◌, drop}
use Rattle.std.specs.Prelude.{find, option_map}
use Rattle.mem_base.specs.map.Search.{root_of, is_space}
use Rattle.touched_spaces.proofs.regions.root_in.Given as goal

-- the space is among those that are left, if it is anywhere
abbrev pub invariant-loop-id : goal.invariant-loop-id
invariant-loop-id l = option_map (λ p. p.1) (find (is_space l.space) (drop l.id-index l.id-items)) ≡ root_of l.forest l.space
