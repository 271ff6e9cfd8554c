pub mod Rows
pub mod KeyStarts
pub mod Same
pub mod SignalStarts
