pub mod Contours
pub mod Lazy
