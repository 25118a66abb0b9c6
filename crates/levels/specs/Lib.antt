-- Which amount gives this level: the definitions that contracts cite, and what their answers mean. The laws are in proofs/.
pub mod Levels
pub mod Parts
pub mod Found
pub mod Answered
