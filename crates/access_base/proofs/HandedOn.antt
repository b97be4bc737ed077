-- What this crate hands on of the crates below it: who takes these names from here need not list those crates.
pub use Rattle.access_cut.proofs.Good.{some_registers}
pub use Rattle.access_cut.specs.Conditions.{IsGood}
pub use Rattle.generation.specs.Published.{Published, published}
