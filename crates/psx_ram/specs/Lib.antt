pub mod Apart
pub mod Words
pub mod Parts
