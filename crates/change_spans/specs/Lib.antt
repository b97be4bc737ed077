pub mod Alike
pub mod Reaches
