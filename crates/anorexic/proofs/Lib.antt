pub mod Frontier
pub mod Table
pub mod Turns
pub mod Steps
