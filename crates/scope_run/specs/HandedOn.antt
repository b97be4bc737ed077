-- What this crate hands on of the crates below it: who takes these names from here need not list those crates.
pub use Rattle.script_lint.specs.Blocks.{idle_par}
pub use Rattle.script_lint.specs.Refusals.{taken_along_by}
pub use Rattle.script_lint.specs.Transactions.{unclosed}
