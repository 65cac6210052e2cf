pub mod Lines
pub mod Waiting
pub mod Choices
pub mod Patiences
