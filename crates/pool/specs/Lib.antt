pub mod Pieces
pub mod Contents
pub mod Sound
