pub mod ListingsLaws
pub mod PastLaws
pub mod listed
