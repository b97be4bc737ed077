pub mod PagesLaws
pub mod SeenLaws
pub mod ReceiptLaws
pub mod RecordLaws
pub mod StayLaws
pub mod HandedOn
mod SettledLaws
