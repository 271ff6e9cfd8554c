pub mod FromText
pub mod Diagram
pub mod Flushed
