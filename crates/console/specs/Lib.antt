pub mod Wishes
pub mod Asks
