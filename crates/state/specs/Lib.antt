pub mod State
pub mod Held
pub mod Limits
pub mod Key
pub mod Table
