pub mod Ranges
pub mod Lagging
pub mod Delivering
pub mod Again
pub mod Kernel
pub mod Turning
pub mod Steps
