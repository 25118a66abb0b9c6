-- The laws of lanes' calls: their numbers and promises (LaneLaws), that the contract leaves nothing open (LaneUnique), other lanes' cells
-- and calls in any order beside the run (Orders), demand 3 with them (LaneCuts), and that there are such calls (LaneMade, Example).
pub mod LaneLaws
pub mod LaneUnique
pub mod Orders
pub mod LaneMade
pub mod LaneCuts
pub mod Example
