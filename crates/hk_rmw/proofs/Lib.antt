pub mod AllDigits
pub mod Digits
