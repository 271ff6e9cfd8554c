pub mod Locations
pub mod Marks
pub mod Findings
pub mod Faults
