pub mod Reaching
pub mod InOrder
pub mod BitFields
