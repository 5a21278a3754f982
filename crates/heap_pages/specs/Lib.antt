pub mod Limits
pub mod Rows
pub mod Layout
pub mod Refused
pub mod Changes
pub mod Spans
pub mod Columns
