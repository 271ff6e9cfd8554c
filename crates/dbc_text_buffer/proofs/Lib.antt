mod PairTables
pub mod Parts
pub mod Shown
mod SmallTables
mod WordBytes
mod WordZeros
