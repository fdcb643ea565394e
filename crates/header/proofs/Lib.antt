pub mod Asks
pub mod CodesLaws
pub mod HeadLaws
pub mod LayoutLaws
pub mod PrintedLaws
