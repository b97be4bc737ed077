-- What this crate hands on of the crates below it: who takes these names from here need not list those crates.
pub use Rattle.desk_lock.specs.HandedOn.{ConfigState}
pub use Rattle.desk_orders.specs.Records.{IsLater, RecordState, later_entries}
pub use Rattle.desk_lock.specs.Records.{IsUnused}
