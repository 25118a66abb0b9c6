pub mod Appends
pub mod CycleExamples
pub mod CycleLaws
pub mod Few
pub mod FractionLaws
pub mod Moves
