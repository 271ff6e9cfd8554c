pub mod Device
pub mod Outs
pub mod Views
pub mod Waiting
