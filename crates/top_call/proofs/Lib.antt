pub mod RaceLaws
