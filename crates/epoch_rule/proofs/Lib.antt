mod Common
pub mod ActorSteps
pub mod AddsLaws
pub mod EntrySteps
pub mod LeastLaws
pub mod LoadLaws
pub mod OpeningLaws
pub mod PassLaws
pub mod SeatSteps
pub mod SweepLaws
pub mod TouchLaws
pub mod WordSteps
