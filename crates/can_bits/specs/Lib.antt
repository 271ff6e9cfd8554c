pub mod Bits
pub mod Stepping
pub mod Steps
pub mod Windows
pub mod Grids
pub mod Cells
