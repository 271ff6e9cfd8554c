pub mod Rounds
pub mod Facts
pub mod Agrees
pub mod Sound
pub mod Yields
pub mod Texts
