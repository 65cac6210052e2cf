pub mod Sums
pub mod Equal
pub mod Newest
pub mod Chained
