pub mod CountLaws
pub mod DeliveringLaws
pub mod JournalLaws
pub mod SwitchingLaws
