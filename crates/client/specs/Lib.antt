pub mod Odd
pub mod LastBuild
