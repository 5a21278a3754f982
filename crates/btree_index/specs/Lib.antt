pub mod Height
pub mod Entries
pub mod Nodes
pub mod Cursors
pub mod Packed
pub mod Runs
