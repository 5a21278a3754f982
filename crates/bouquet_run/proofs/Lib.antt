pub mod Done
pub mod Onward
pub mod Stepping
