pub mod Accepted
mod Agains
mod Anys
mod Backs
mod Breaks
pub mod Chains
mod Entries
pub mod Forths
mod Highs
mod Knowns
mod Pieces
mod Whole
