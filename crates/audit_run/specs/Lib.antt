pub mod Measures
pub mod Audits
pub mod Executed
