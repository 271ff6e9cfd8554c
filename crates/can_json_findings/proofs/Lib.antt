pub mod Pushed
pub mod Beginnings
