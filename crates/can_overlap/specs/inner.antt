-- What private functions and proofs cite, and no promise to callers: a middle step.
pub mod Apart
pub mod IndexSet
pub mod MuxPaths
pub mod Occupancy
pub mod Ordered
