-- What this crate hands on of the crates below it: who takes these names from here need not list those crates.
pub use Rattle.pass_lines.proofs.DoneLaws.{at_later, published_prefix}
pub use Rattle.pass_lines.proofs.EntryLaws.{state_then}
pub use Rattle.pass_lines.specs.Doing.{IsInItsGeneration, state_seen}
pub use Rattle.pass_lines.specs.declared.answers.LineAnswer.{LineAnswer}
