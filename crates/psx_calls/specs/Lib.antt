pub mod Numbers
pub mod Words
pub mod Entries
pub mod Places
pub mod Lines
pub mod Shown
pub mod Refusals
