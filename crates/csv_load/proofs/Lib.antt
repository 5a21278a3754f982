pub mod Digits
pub mod EntryReads
pub mod Fields
pub mod Headers
pub mod Integers
pub mod Rows
pub mod Texts
