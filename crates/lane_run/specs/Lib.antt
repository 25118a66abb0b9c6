-- The definitions that contracts cite (LaneCall, Either), and what is proved of lanes' calls: beside the run (Orders), and in demand 3's Run B
-- (LaneCuts). Their laws are in proofs/.
pub mod LaneCall
pub mod Either
pub mod Orders
pub mod LaneCuts
