pub mod Fitting
pub mod Steps
pub mod Shown
pub mod Answered
pub mod CalledSound
pub mod Walks
