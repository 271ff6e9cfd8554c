pub mod Changes
pub mod Rows
pub mod Edits
pub mod Refusals
