-- How the code reads tokens: an intermediate step that private functions and the proofs cite. What is promised
-- is defined without it.
pub mod Readers
pub mod Cursors
pub mod Keywords
pub mod Parts
pub mod Messages
pub mod Tables
pub mod Attributes
pub mod Databases
pub mod Located
