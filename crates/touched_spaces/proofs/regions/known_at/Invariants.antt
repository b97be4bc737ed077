use Rattle.std.proofs.Common.{◌≡◌, ◌==◌, drop}
use Rattle.std.specs.Prelude.{find, option_map}
use Rattle.touched_spaces.proofs.regions.known_at.Given as goal

-- the space is among those that are left, if it is anywhere
abbrev pub invariant-loop-id : goal.invariant-loop-id
invariant-loop-id l = option_map (λ p. p.1) (find (λ p. p.0.0 == l.space.0) (drop l.id-index l.known))
    ≡ option_map (λ p. p.1) (find (λ p. p.0.0 == l.space.0) l.known)
