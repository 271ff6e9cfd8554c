pub mod WalkSteps
pub mod WalkLaws
pub mod FirstRows
pub mod SortedRows
pub mod IndexedRows
