pub mod ByTens
pub mod LastDigit
