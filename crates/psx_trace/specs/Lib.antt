pub mod Digits
pub mod StopText
pub mod Line
pub mod Plain
pub mod Reading
