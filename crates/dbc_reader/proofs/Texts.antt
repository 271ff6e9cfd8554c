-- What the families state together: the clauses of the two readers of texts.
pub mod Readings
pub mod LocatedReadings
