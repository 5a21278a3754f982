pub mod Coming
pub mod Outcomes
pub mod Running
