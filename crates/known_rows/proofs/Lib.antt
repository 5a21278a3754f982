pub mod Products
pub mod RowsUnited
pub mod Pairs
pub mod Outs
mod Capped
mod Nodes
mod Tables
pub mod Laws
pub mod Remembering
