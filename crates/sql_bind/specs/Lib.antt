pub mod Named
pub mod Names
pub mod Located
pub mod Predicates
pub mod Conjuncts
pub mod Binding
pub mod Refused
pub mod Collected
