pub mod Steps
pub mod Memory
pub mod Printed
pub mod Scripts
pub mod Lines
mod Meanings
