pub mod Subjects
pub mod Messages
pub mod Dumps
