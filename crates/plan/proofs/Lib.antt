-- The laws of a plan: its section steps (CountLaws, StepLaws), its sizes (SizeLaws), its reads (ReadLaws, Reached), what
-- it says of runs (Planned), and one host frame (FrameLaws).
pub mod SumLaws
pub mod CountLaws
pub mod StepLaws
pub mod Passed
pub mod SizeLaws
pub mod ReadLaws
pub mod Reached
pub mod Planned
pub mod FrameLaws
