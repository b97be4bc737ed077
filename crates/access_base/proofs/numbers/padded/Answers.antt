use Rattle.std.proofs.Common.{◌≡◌, ◌+◌, ◌-◌, ◌++◌, length, replicate, ap, sym, ◌∙◌, arith}
use Rattle.mem_base.specs.access.Words.{number_of_bytes}
use Rattle.access_base.proofs.ByteLaws.{padded_little, padded_big}
use Rattle.access_base.proofs.numbers.padded.Goals as goal

pub returns-then-big : goal.returns-then-big
returns-then-big c =
    let n = length c.args.bytes.now in
    let all : n + (c.args.size - n) ≡ c.args.size = omega (arith, c.requires.fits) in
    let zeros = replicate (c.args.size - n) 0 in
    padded_big c.args.bytes.now c.args.size (c.args.size - n) c.number_of-number.result (c.from.result - n) (λ i. (c.type_inv.bytes i).fits) all c.requires.size
    (ap (λ s. s - n) c.from.ensures) (c.number_of-number.ensures ∙ ap (number_of_bytes c.args.bytes.now) c.if-big.true)
    ∙ ap (number_of_bytes (c.args.bytes.now ++ zeros)) (sym c.if-big.true)

pub returns-else-big : goal.returns-else-big
returns-else-big c =
    let n = length c.args.bytes.now in
    let zeros = replicate (c.args.size - n) 0 in
    padded_little c.args.bytes.now (c.args.size - n) c.number_of-number.result
    (c.number_of-number.ensures ∙ ap (number_of_bytes c.args.bytes.now) c.if-big.false)
    ∙ ap (number_of_bytes (c.args.bytes.now ++ zeros)) (sym c.if-big.false)
