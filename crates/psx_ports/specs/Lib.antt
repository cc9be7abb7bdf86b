pub mod HaltCodes
pub mod Counter
pub mod History
pub mod Interrupts
pub mod KeptCounter
pub mod Laps
pub mod Stands
