pub mod Paths
pub mod Given
pub mod Values
pub mod Written
pub mod Checks
pub mod Parts
pub mod Opened
