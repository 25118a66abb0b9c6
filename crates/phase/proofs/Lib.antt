pub mod MapLaws
pub mod Few
pub mod Some
pub mod SumLaws
