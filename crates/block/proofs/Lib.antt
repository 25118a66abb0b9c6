-- The laws of the block run: its refusals (RefusalLaws), its lanes one after another (SharedLaws), what it promises (CallLaws), its
-- numbers on slices (NumberLaws), that its contract leaves no cell open (Unique), and that no frame or no lane changes nothing (NoFrames, Nothing).
pub mod RefusalLaws
pub mod SharedLaws
pub mod CallLaws
pub mod NumberLaws
pub mod Unique
pub mod NoFrames
pub mod Nothing
