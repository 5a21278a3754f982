pub mod Due
pub mod Script
pub mod Serve
pub mod Source
