pub mod Digits
pub mod Lines
