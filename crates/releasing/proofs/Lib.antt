pub mod Fronts
pub mod Widths
pub mod Reports
pub mod Begins
pub mod Printing
mod Examples
