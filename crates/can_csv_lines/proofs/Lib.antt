pub mod Fields
pub mod Plain
pub mod Pushing
pub mod Rows
pub mod Back
