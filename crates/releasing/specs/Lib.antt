pub mod Words
pub mod Printed
pub mod Unrecorded
pub mod Starts
