pub mod Meets
pub mod Reads
pub mod Lists
pub mod Nexts
pub mod Fits
pub mod States
pub mod Owns
