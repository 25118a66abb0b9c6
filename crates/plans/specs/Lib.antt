-- The definitions that contracts cite.
pub mod Planning
pub mod Table
pub mod Widths
