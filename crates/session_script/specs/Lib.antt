pub mod Words
pub mod Commands
pub mod ScriptGrammar
pub use Rattle.can_session.specs.States
pub mod Replies
pub mod Serving
pub mod Running
