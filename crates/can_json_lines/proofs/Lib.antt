pub mod Indexes
pub mod Taken
pub mod Labels
pub mod Pushing
pub mod Given
