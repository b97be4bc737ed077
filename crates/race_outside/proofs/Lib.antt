pub mod DeskLaws
pub mod AskingLaws
pub mod CopyLaws
pub mod PassLaws
pub mod PlaceLaws
