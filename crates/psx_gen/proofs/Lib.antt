pub mod Blanks
pub mod Readable
