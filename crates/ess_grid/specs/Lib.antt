pub mod Levels
pub mod Points
pub mod Order
pub mod Refused
pub mod Kept
