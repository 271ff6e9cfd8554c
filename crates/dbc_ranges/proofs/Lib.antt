pub mod Skipped
pub mod ItemParts
