pub mod Links
pub mod Walks
pub mod Switches
pub mod Rows
pub mod Groups
pub mod Indexes
pub mod inner
