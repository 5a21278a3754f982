pub mod PointOrder
pub mod PointsAmong
pub mod GridPoints
pub mod Selectivities
pub mod Sizes
pub mod OfGrids
