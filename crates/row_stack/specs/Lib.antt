pub mod Limits
pub mod Stack
pub mod Packed
pub mod Memory
pub mod Bounds
pub mod Changes
