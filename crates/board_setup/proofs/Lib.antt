pub mod StartedLaws
