pub mod Lexical
pub mod Names
pub mod Pieces
pub mod Numbers
pub mod Decimals
pub mod Scales
pub mod inner
