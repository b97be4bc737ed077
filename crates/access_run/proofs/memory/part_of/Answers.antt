use Rattle.std.proofs.Common.{ap, ◌∙◌}
use Rattle.mem_base.specs.access.Words.{bytes_from}
use Rattle.access_base.proofs.ByteLaws.{part_number}
use Rattle.access_run.proofs.memory.part_of.Goals as goal

pub returns-then-bytes-eq8 : goal.returns-then-bytes-eq8
returns-then-bytes-eq8 c =
    c.bytes_from.ensures ∙ ap (λ n. bytes_from n c.args.from c.args.count) c.number_of.ensures
    ∙ part_number c.args.from c.args.count c.args.bytes.now (λ i. (c.type_inv.bytes i).fits)
