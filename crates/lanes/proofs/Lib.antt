pub mod Index
pub mod Polynomials
