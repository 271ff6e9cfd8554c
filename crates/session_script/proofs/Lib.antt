mod LogLines
mod Spaces
mod WordTexts
mod Bodies
mod Verbs
mod There
mod Found
pub mod FromText
pub mod Printing
pub mod Layouts
