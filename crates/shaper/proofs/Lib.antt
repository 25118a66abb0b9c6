-- The laws of the shaper's calls, for the crates above.
pub mod StoreLaws
pub mod RefusalLaws
pub mod TakenLaws
pub mod CallLaws
