pub mod EntryLaws
pub mod AccessLaws
pub mod CopyLaws
pub mod ClipLaws
pub mod LineLaws
pub mod DoneLaws
