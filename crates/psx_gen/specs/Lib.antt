pub mod Workload
pub mod Spaced
