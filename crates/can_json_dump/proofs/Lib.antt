pub mod Filtered
pub mod Found
pub mod Lines
pub mod Planned
