use Rattle.std.proofs.Common.{◌<◌, ◌^◌, length, subst, sym}
use Rattle.access_base.proofs.ByteLaws.{little_endian_below}
use Rattle.bounded_write.proofs.WordLaws.{word_tried}
use Rattle.bounded_write.proofs.memory.write_word.Goals as goal

pub step_within-requires-clause-kind : goal.step_within-requires-clause-kind
step_within-requires-clause-kind c = (
  c.requires.some,
  c.requires.one,
  subst (λ n. n < 256 ^ length c.args.bytes.now) (sym c.number_of-value.ensures) (little_endian_below c.args.bytes.now (λ i. (c.type_inv.bytes i).fits)),
)

pub returns : goal.returns
returns c =
    word_tried c.step_within.result c.args.pass.now c.step_within.new.pass c.args.place.now c.args.offset c.number_of-value.result c.args.tries
    c.args.bytes.now c.number_of-value.ensures c.step_within.ensures
