pub mod Saves
pub mod Puts
pub mod Rooms
pub mod Laws
