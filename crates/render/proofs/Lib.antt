-- The laws of a lane's rendered frames.
pub mod InputLaws
pub mod VoiceLaws
pub mod FrameLaws
pub mod PlainLaws
