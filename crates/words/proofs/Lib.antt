pub mod ChangedLaws
pub mod GroupsLaws
pub mod ListedLaws
pub mod StateLaws
pub mod WordsLaws
pub mod WrittenLaws
