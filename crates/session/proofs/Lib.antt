pub mod Auditing
pub mod Beginning
pub mod Executed
pub mod JobTurns
pub mod Misfits
pub mod PointLevels
pub mod RowsPrinted
pub mod Selecting
