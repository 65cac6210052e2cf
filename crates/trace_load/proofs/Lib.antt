mod Counts
mod Loads
mod Puts
mod Taken
