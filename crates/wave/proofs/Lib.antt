pub mod Drives
pub mod Distorting
