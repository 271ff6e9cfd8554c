pub mod Counts
pub mod OwnFaults
pub mod Parts
pub mod Placed
pub mod Given
