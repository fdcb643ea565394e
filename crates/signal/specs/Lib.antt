pub mod AlivePlaces
pub mod Alive
