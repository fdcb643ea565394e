pub mod Pieces
pub mod Possible
pub mod Cutter
pub mod Edges
pub mod Printed
