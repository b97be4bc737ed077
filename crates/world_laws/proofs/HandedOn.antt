-- What this crate hands on of the crates below it: who takes these names from here need not list those crates.
pub use Rattle.access_base.proofs.HandedOn.{published}
pub use Rattle.turn_laws.proofs.Rows.{flags_after}
