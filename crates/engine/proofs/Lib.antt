pub mod Lists
pub mod Nexts
pub mod Fits
pub mod Meets
pub mod Owns
pub mod Turns
pub mod Replays
pub mod Listing
