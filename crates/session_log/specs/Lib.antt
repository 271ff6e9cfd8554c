pub mod Touched
pub mod Elsewhere
pub mod Positions
pub mod Logs
pub mod Kept
pub mod inner
