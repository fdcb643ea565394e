pub mod CheckLaws
pub mod PrintedLaws
pub mod RingLaws
pub mod Table14Laws
