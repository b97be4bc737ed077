use Rattle.std.proofs.Common.{ℕ, ◌≡◌, ◌+◌, ◌-◌, ◌*◌, arith, rules, ap, sym, ◌∙◌, drop, drop_of_length-le}
use Rattle.mem_base.specs.access.Words.{little_endian}
use Rattle.access_cut.proofs.Bytes.{fits_more, one_more}
use Rattle.access_cut.proofs.Powers.{below_bytes}
use Rattle.access_cut.proofs.numbers.lowest_first.Goals as goal

pub loop-left-init : goal.loop-left-init
loop-left-init c =
    let all = drop_of_length-le c.args.bytes.now {i = c.args.count} (omega (arith, c.requires.count)) in
    record { inside = omega arith; read = sym (ap little_endian all); small = search (rules, arith) }

pub bounds-bytes-left : goal.bounds-bytes-left
bounds-bytes-left c = omega (arith, c.requires.count, c.loop-left.invariant.inside, c.loop-left-test.true)

pub overflow_mul-number : goal.overflow_mul-number
overflow_mul-number c =
    let l = c.loop-left in
    let few = below_bytes l.number _ l.invariant.small (omega (arith, c.requires.few, c.loop-left-test.true)) in
    search (rules, few)

pub overflow_add-number : goal.overflow_add-number
overflow_add-number c =
    let l = c.loop-left in
    let few = below_bytes l.number _ l.invariant.small (omega (arith, c.requires.few, c.loop-left-test.true)) in
    search (rules, few)

pub loop-left-preserved : goal.loop-left-preserved
loop-left-preserved c =
    let l = c.loop-left in
    let byte : ℕ = c.from.result in
    let fits = c.type_inv.bytes (l.left - 1) in
    let more = one_more c.args.bytes.now l.left 0 c.loop-left-test.true (omega (arith, l.invariant.inside, c.requires.count)) in
    record {
      inside = omega (arith, l.invariant.inside);
      read = ap (λ n. 256 * n + byte) l.invariant.read ∙ ap (λ b. 256 * little_endian (drop l.left c.args.bytes.now) + b) c.from.ensures ∙ more;
      small = fits_more l.number byte c.args.count l.left c.loop-left-test.true l.invariant.inside l.invariant.small (omega (arith, fits, c.from.ensures));
    }

pub returns : goal.returns
returns c =
    let l = c.loop-left in
    let all : l.left ≡ 0 = omega (arith, c.loop-left-test.false) in
    l.invariant.read ∙ ap (λ n. little_endian (drop n c.args.bytes.now)) all
