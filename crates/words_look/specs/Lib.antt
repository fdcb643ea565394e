pub mod Look
pub mod private
