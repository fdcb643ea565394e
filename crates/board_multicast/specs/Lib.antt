-- The multicast call on words is the call by value, of words that are a state within its limits (HeardLaws).
pub mod private
