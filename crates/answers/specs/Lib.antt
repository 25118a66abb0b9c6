-- The definitions that contracts cite.
pub mod Hash
pub mod Random
