pub mod Night
pub mod Cuts
pub mod Pages
