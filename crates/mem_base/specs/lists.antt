-- Lists: what holds of each element, lists in order, and numbers in a row.
pub mod Booleans
pub mod Every
pub mod Sorting
pub mod Runs
