pub mod GroupsLaws
