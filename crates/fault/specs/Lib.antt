pub mod private
pub mod Section
pub mod Bits
pub mod Places
pub mod Reading
pub mod Writing
pub mod Edges
