-- What stands in the fields of docs/EDGES.md.
pub mod Fields
