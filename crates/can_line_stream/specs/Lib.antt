pub mod Lines
pub mod Cuts
pub mod Runs
pub mod Stream
pub mod LineTexts
