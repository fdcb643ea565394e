pub mod AgedLaws
