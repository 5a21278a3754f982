pub mod CutRows
pub mod Packed
pub mod PageStarts
pub mod Reciprocal
pub mod OfRows
pub mod PlainPages
mod Refusals
pub mod MarkedRows
pub mod ColumnWords
