pub mod Answers
pub mod Asked
pub mod Bounds
pub mod Pairs
pub mod Zero
