-- In reading order.
pub mod Runs
pub mod Comes
pub mod Table
