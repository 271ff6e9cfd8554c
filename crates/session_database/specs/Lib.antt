pub mod Acceptance
pub mod CompiledMessage
pub mod Diagnosed
pub mod CompiledDatabase
