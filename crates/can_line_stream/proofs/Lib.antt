pub mod Handling
pub mod Reading
pub mod Ending
pub mod OfTexts
