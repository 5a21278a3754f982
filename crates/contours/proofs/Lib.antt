pub mod Extremes
pub mod Reduced
pub mod Count
pub mod Soundness
pub mod Foot
pub mod Collected
pub mod Outlined
