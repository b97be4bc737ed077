use Rattle.script_make.proofs.SeedLaws.{seed_reads}
use Rattle.script_make.proofs.laws.seeds_give_scripts.Goals as goal

pub returns : goal.returns
returns c = record { reads = seed_reads }
