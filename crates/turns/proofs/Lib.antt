pub mod FreshJob
pub mod JobsTurned
pub mod TurnsTaken
pub mod IdleStays
pub mod Rounds
pub mod NextTurn
pub mod RunAlone
