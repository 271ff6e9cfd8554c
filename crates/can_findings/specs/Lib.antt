pub mod Beginnings
pub mod Remedies
pub mod RowStarts
pub mod MessageLocations
pub mod RowLocations
pub mod AllFindings
