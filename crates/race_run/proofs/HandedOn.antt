-- What this crate hands on of the crates below it: who takes these names from here need not list those crates.
pub use Rattle.race_inside.proofs.HandedOn.{ConfigState}
pub use Rattle.script_run.specs.declared.faults.RunFault.{RunFault}
pub use Rattle.script_run.specs.declared.faults.RunFault.TheVariants.{Write}
