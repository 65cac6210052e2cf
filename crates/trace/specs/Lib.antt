pub mod Reads
pub mod Format
pub mod Told
pub mod Laws
