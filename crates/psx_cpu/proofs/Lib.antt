pub mod Moves
pub mod Pending
pub mod Views
pub mod PortReads
pub mod KernelSide
