use Rattle.std.proofs.Common.{◌≡◌, drop}
use Rattle.std.specs.List.{list_any}
use Rattle.race_block.specs.Texts.{gave_order}
use Rattle.race_block.proofs.texts.any_gave_order.Given as goal

abbrev pub invariant-loop-got : goal.invariant-loop-got
invariant-loop-got l = list_any gave_order (drop l.got-index l.all) ≡ list_any gave_order l.all
