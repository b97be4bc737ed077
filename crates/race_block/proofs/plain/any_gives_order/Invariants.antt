use Rattle.std.proofs.Common.{◌≡◌, drop}
use Rattle.std.specs.List.{list_any}
use Rattle.race_block.specs.Resolving.{gives_order}
use Rattle.race_block.proofs.plain.any_gives_order.Given as goal

abbrev pub invariant-loop-own : goal.invariant-loop-own
invariant-loop-own l = list_any (λ x. gives_order x.line.now.1) (drop l.own-index l.lines) ≡ list_any (λ x. gives_order x.line.now.1) l.lines
