pub mod Marks
pub mod Codes
pub mod Rows
pub mod Kept
