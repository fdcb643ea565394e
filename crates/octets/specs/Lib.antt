pub mod Answer
pub mod FirstPlace
pub mod Number
pub mod Run
pub mod Split
