pub mod Overlaps
pub mod inner
