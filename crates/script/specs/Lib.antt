pub mod Text
pub mod Words
pub mod Views
pub mod Sound
pub mod Scripts
pub mod Haves
