-- Small facts of bytes, names and tokens, for all families.
pub mod Ends
pub mod MessageNames
pub mod Faults
pub mod Names
pub mod KeptBeginnings
pub mod Keywords
pub mod Unsigned
