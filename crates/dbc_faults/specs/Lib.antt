pub mod Headlines
pub mod Patterns
pub mod FaultLocations
pub mod Derivatives
