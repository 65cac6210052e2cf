pub mod Standings
pub mod Stocks
pub mod States
pub mod Ends
pub mod Inner
pub mod Places
pub mod Views
pub mod Tickets
