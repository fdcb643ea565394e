pub mod Course
pub mod AsPrinted
pub mod Counted
pub mod Board
pub mod Demands
