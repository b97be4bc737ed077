pub mod RacedText
pub mod Races
