-- What this crate hands on of the crates below it: who takes these names from here need not list those crates.
pub use Rattle.pass_lines.specs.Doing.{IsInItsGeneration}
