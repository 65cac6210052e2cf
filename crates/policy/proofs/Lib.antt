pub mod Filling
pub mod Lines
pub mod Above
pub mod Choices
pub mod Waiting
pub mod Asking
