use Rattle.std.proofs.Common.{◌≡◌, drop}
use Rattle.std.specs.Prelude.{find, option_map}
use Rattle.mem_base.specs.map.Search.{is_space}
use Rattle.find_why.proofs.regions.root_among.Given as goal

-- the space is among those that are left, if it is anywhere
abbrev pub invariant-loop-s : goal.invariant-loop-s
invariant-loop-s l = option_map (λ p. p.1) (find (is_space l.space) (drop l.s-index l.spaces)) ≡ option_map (λ p. p.1) (find (is_space l.space) l.spaces)
