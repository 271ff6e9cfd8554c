pub mod AllFaults
pub mod MessageFaults
pub mod Reports
pub mod SignalRules
