pub mod Counted
pub mod Numerals
pub mod PlainNumbers
pub mod Scaled
pub mod WholeNumbers
pub mod Written
