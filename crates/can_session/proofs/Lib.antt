pub mod Keeping
pub mod Raising
