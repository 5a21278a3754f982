pub mod RowsAmong
pub mod Places
pub mod Word
pub mod Fields
pub mod Heap
