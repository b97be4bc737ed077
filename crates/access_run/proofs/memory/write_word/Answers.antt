use Rattle.std.proofs.Common.{◌<◌, ◌^◌, length, subst, sym}
use Rattle.access_base.proofs.ByteLaws.{little_endian_below}
use Rattle.access_run.proofs.memory.write_word.Goals as goal

pub write_word-requires-clause-kind : goal.write_word-requires-clause-kind
write_word-requires-clause-kind g c = (
  c.requires.some,
  c.requires.one,
  subst (λ n. n < 256 ^ length c.args.bytes.now) (sym c.requires.value) (little_endian_below c.args.bytes.now (λ i. (c.type_inv.bytes i).fits)),
)
