pub mod Lexeme
pub mod Magnitude
pub mod Line
