pub mod Entries
pub mod Known
pub mod LeastWork
pub mod Remembering
