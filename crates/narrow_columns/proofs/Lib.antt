pub mod BlockMarks
pub mod RanksOfCodes
pub mod ColumnsOfRows
pub mod CodesMarked
pub mod WordsOfCodes
pub mod Extents
