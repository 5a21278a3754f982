pub mod Product
pub mod Fresh
pub mod Ready
pub mod Kept
pub mod Narrow
