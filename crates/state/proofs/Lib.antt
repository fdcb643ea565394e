pub mod HeldLaws
pub mod KeyLaws
pub mod LimitsLaws
pub mod TableLaws
pub mod WithinLaws
