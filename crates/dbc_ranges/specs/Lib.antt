pub mod Ranges
pub mod PartLaws
