pub mod Equals
pub mod Newests
mod Steps
mod Walks
