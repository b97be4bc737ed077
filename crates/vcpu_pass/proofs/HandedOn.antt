-- What this crate hands on of the crates below it: who takes these names from here need not list those crates.
pub use Rattle.access_run.proofs.AccessLaws.{read_past, write_past}
pub use Rattle.access_run.specs.Chunks.{steps_below}
