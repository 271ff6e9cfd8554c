pub mod Strings
pub mod Parts
pub mod Powers
pub mod Digits
pub mod DigitTexts
pub mod NumberTexts
pub mod WholeNumbers
pub mod Exponents
pub mod NormalForms
pub mod Signs
pub mod Scaling
pub mod Kept
pub mod PlainDigits
pub mod Keywords
pub mod PlainDecimals
pub mod ExponentNumbers
mod Classes
