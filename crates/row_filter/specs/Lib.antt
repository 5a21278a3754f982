pub mod Regions
pub mod RowFilters
pub mod Unions
pub mod InLists
