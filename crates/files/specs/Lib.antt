pub mod Layout
pub mod Drafts
pub mod Laws
pub mod Images
pub mod Trips
pub mod Tables
