-- What this crate hands on of the crates below it: who takes these names from here need not list those crates.
pub use Rattle.desk_orders.proofs.RecordLaws.{later_same, later_joins}
pub use Rattle.desk_orders.proofs.StayLaws.{later_makes_turns}
pub use Rattle.desk_orders.specs.Laws.{MakesTurns}
pub use Rattle.desk_orders.specs.Records.{IsLater, RecordState, later_entries}
