pub mod Numerals
pub mod HexDigits
