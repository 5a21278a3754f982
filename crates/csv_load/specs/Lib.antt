pub mod Field
pub mod Fault
pub mod Header
pub mod Load
pub mod Entries
