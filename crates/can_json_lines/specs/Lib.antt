pub mod PreparedTexts
pub mod Signals
pub mod Lines
pub mod inner
