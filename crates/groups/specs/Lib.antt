-- The groups in which a node is registered (Groups), and their laws (GroupsLaws).
pub mod Groups
