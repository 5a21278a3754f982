pub mod Limits
pub mod LimitNames
pub mod Order
pub mod Words
pub mod Dictionary
pub mod Stored
pub mod Truth
pub mod Steps
