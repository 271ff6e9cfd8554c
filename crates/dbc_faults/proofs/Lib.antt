pub mod Pushed
pub mod Joined
pub mod Steps
pub mod FaultLocations
pub mod Verdicts
pub mod Expected
