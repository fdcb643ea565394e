pub mod Ring
pub mod Edges
pub mod Check
pub mod Table14
pub mod Printed
