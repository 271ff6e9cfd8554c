pub mod Classes
pub mod Pattern
pub mod Grammar
pub mod Forms
pub mod Kinds
pub mod Spelling
pub mod Texts
pub mod Starts
pub mod Located
-- how the code reads tokens: an intermediate step
pub mod inner
