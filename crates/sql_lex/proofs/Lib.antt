pub mod Texts
pub mod Wholes
pub mod Lexings
pub mod Spelled
