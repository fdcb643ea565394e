pub mod Codes
pub mod Layout
pub mod Places
pub mod Head
pub mod Printed
pub mod private
