pub mod Causes
pub mod Tokens
-- how the code reads a text: an intermediate step
pub mod inner
pub mod Places
pub mod Views
