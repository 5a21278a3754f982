pub mod ClapLine
pub mod ClapWords
pub mod CutAtEquals
pub mod WordNumbers
pub mod WordsGiven
pub mod WordsRead
