pub mod FourBytes
pub mod Laws
pub mod Bytes
pub mod Parts
pub mod Reset
