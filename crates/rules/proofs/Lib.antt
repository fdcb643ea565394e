pub mod pasts
pub mod calls
