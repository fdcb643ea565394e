pub mod NightLaws
