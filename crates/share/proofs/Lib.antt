-- The laws of a lane's share.
pub mod ShareLaws
