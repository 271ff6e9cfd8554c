-- What private functions and proofs cite, and no promise to callers: a middle step.
pub mod KeySets
pub mod SignalHashes
pub mod SignalRuns
pub mod SignalSearches
pub mod ManyRows
pub mod Spans
