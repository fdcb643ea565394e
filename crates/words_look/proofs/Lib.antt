pub mod AddressLaws
pub mod HeldLaws
pub mod LookLaws
pub mod private
