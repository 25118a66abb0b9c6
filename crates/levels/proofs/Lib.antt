-- The laws of the amount for a level.
pub mod PartLaws
pub mod LevelLaws
pub mod AnsweredLaws
pub mod WithinLaws
mod Examples
