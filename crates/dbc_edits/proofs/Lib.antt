pub mod Fitting
pub mod Adding
pub mod Clearing
pub mod Indexes
pub mod Changing
