pub use Rattle.dbc_edits.specs.Edits
pub use Rattle.dbc_edits.specs.Refusals
pub use Rattle.session_log.specs.Touched
pub mod States
pub mod Sessions
