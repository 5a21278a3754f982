pub mod Dictionary
pub mod ValueOrder
pub mod Stored
pub mod Ascending
pub mod Words
