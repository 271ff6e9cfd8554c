pub mod Values
pub mod Records
pub mod Texts
pub mod Members
