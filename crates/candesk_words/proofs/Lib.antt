pub mod OnLiterals
pub mod Commands
pub mod WordRows
