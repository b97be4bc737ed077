pub mod PlaceLaws
pub mod SlotsLaws
pub mod SlotsBasics
pub mod ResizeLaws
pub mod ToldLaws
pub mod HandedOn
