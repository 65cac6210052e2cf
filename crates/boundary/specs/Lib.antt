pub mod Figures
pub mod Puts
pub mod Retraced
pub mod Wishes
pub mod Rounds
pub mod Accounts
