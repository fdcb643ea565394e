-- "A past is a setup, storage of its right length with any octets in it, and then calls".
pub mod Past
-- Small pasts with the answers that 01 gives.
pub mod Listings
