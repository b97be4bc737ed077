use Rattle.std.proofs.Common.{ap, sym, ◌∙◌, arith}
use Rattle.mem_base.specs.access.Words.{bytes_from}
use Rattle.access_base.proofs.ByteLaws.{eight_bytes, few_bytes}
use Rattle.access_base.proofs.numbers.bytes_from.Goals as goal

pub returns-then-size-eq8 : goal.returns-then-size-eq8
returns-then-size-eq8 c =
    eight_bytes c.args.word c.args.first c.from.result c.ranges.word.fits c.from.ensures
    ∙ ap (λ n. bytes_from c.args.word c.args.first n) (sym c.if-size-eq8.true)

pub returns-else-size-eq8 : goal.returns-else-size-eq8
returns-else-size-eq8 c =
    few_bytes c.args.word c.args.first c.args.size c.from.result c.from-else-size-eq8.result
    (omega (arith, c.requires.size, c.if-size-eq8.false)) c.from.ensures
    c.from-else-size-eq8.ensures
