mod Least
mod Height
mod Ranges
mod Nodes
mod Pushed
pub mod EntryOrder
mod Runs
pub mod OfCursors
pub mod Keys
