use Rattle.std.proofs.Common.{ℕ, ◌-◌, ◌*◌, ◌/◌, ◌%◌, ◌≡◌, length, arith}
use Rattle.access_run.proofs.HandedOn.{whole_words}
use Rattle.vcpu_pass.proofs.LoadLaws.{two_reads}
use Rattle.vcpu_pass.proofs.memory.read_from_word.Goals as goal

pub returns : goal.returns
returns c =
    let n : ℕ = length c.args.out.now in
    let whole : ℕ = n - n % 8 in
    let many : whole ≡ 8 * (whole / 8) = omega arith in
    two_reads c.args.pass.now c.read_words.new.pass c.read_parts.new.pass c.args.place.now.region c.args.offset whole c.args.out.now c.read_words.new.out
    c.read_parts.new.out (omega arith) (λ m. whole_words c.args.offset (whole / 8) m whole c.requires.begins many) c.read_words.auto.out c.read_parts.auto.out
    c.read_words.ensures c.read_parts.ensures
