pub mod Indexes
pub mod PlanOrder
pub mod Sets
pub mod LeafSets
pub mod Bits
pub mod Members
pub mod Outermost
pub mod Enumerated
pub mod AscendingPlans
pub mod Capped
pub mod Digits
mod Ascending
mod RootLists
mod AscendingRoots
mod RangeLists
mod LeftSides
mod Listed
mod PlanCounts
pub mod Reader
pub mod MetParts
pub mod Narrowing
pub mod PutPlans
