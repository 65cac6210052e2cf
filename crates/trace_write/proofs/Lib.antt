mod Brings
mod Indices
pub mod Lawfuls
mod Listed
mod Lists
mod Orders
mod Outputs
mod Rounds
mod Selects
mod Sizes
mod Tables
pub mod Trips
