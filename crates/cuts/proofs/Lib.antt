-- Demand 3 (Cuts), that there are such runs (Runs, Example), and the laws they rest on.
pub mod Accepted
pub mod Decimator
pub mod Lane
pub mod State
pub mod Share
pub mod Calls
pub mod Leaves
pub mod Made
pub mod Runs
pub mod Cuts
pub mod Example
