pub mod Table
pub mod Search
pub mod Steps
pub mod KeptRows
pub mod Alike
pub mod Surface
pub mod KnownCosts
pub mod SurfacePoints
pub mod FrontierPlans
pub mod Places
pub mod CostedPlans
-- what only proofs need
pub mod Parts
pub mod PartSums
pub mod PlanCodes
