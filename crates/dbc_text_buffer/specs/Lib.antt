pub mod TextBuffers
pub mod EightDigits
pub mod Shown
