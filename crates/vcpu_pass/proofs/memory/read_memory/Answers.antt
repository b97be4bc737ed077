use Rattle.std.proofs.Common.{ℕ, ◌-◌, ◌%◌, refl, arith}
use Rattle.vcpu_pass.proofs.LoadLaws.{cut_at_word, two_reads}
use Rattle.vcpu_pass.proofs.memory.read_memory.Goals as goal

pub returns-else-out-first : goal.returns-else-out-first
returns-else-out-first c =
    let first : ℕ = (8 - c.args.offset % 8) % 8 in
    two_reads c.args.pass.now c.read_parts-else-out-first.new.pass c.read_from_word.new.pass c.args.place.now.region c.args.offset first c.args.out.now
    c.read_parts-else-out-first.new.out c.read_from_word.new.out (omega (arith, c.if-out-first.false)) (λ m. cut_at_word c.args.offset first m refl)
    c.read_parts-else-out-first.auto.out c.read_from_word.auto.out c.read_parts-else-out-first.ensures c.read_from_word.ensures
