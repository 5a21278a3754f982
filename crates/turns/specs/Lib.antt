pub mod Standing
pub mod Jobs
pub mod Taking
