pub mod Parts
pub mod Judging
pub mod Taking
pub mod Putting
pub mod Accounting
pub mod Releasing
pub mod Starting
