pub mod Quotients
pub mod Some
pub mod Worst
pub mod Walk
pub mod Between
pub mod Premise
