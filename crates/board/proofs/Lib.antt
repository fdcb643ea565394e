pub mod PartLaws
pub mod SetupLaws
pub mod TalliedLaws
pub mod ToldLaws
