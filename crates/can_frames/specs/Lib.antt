pub mod LogLines
pub mod Frames
pub mod LogGrammar
pub mod inner
