pub mod Kept
pub mod OwnParts
