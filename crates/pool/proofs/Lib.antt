mod Places
mod Finds
mod Puts
mod Adds
mod Cuts
mod Indexes
pub mod Sounds
