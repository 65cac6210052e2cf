pub mod Computed
pub mod Builds
pub mod Cases
