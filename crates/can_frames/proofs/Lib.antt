mod Words
pub mod Digits
mod Lanes
mod DigitLanes
mod Pieces
mod Runs
pub mod LineWords
pub mod Stamps
mod Hexadecimals
mod Identifiers
mod Tails
mod Grammar
mod UsualStamps
mod UsualLines
