-- The laws of amounts and sources, for the crates above.
pub mod LentLaws
