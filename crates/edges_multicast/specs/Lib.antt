-- What a field leaves of the lent tables.
pub mod Fields
