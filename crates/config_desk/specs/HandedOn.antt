-- What this crate hands on of the crates below it: who takes these names from here need not list those crates.
pub use Rattle.seat_run.specs.Written.{HasWritten}
pub use Rattle.writer_desk.specs.Writers.{is_held}
pub use Rattle.writer_run.specs.Turns.{number_told}
