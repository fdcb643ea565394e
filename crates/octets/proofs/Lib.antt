pub mod FirstPlaceLaws
pub mod MadeLaws
pub mod NumberLaws
pub mod RunLaws
