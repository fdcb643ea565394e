pub mod TickedLaws
pub mod private
