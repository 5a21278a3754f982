pub mod Learning
pub mod Skips
pub mod Outcomes
-- what only proofs need
pub mod Raising
pub mod Covering
