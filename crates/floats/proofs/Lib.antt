-- For other crates: `pub mod`.
pub mod Nan
pub mod Read
pub mod Patterns
pub mod Sums
pub mod Values
pub mod Exact
pub mod Products
pub mod Own
pub mod Fractions
pub mod Entries
pub mod PowerCases
pub mod PowerReview
pub mod RootCases
pub mod RootOnly
pub mod RootSquares
mod Below
mod Casts
mod Closest
mod FloorRoot
mod Floors
mod Halves
mod Mixing
mod NearWhole
mod RootPatterns
mod Shifts
mod Signs
mod SmallFloors
