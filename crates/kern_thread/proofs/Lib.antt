pub mod ThreadsHeld
pub mod Stores
pub mod B0eOpenThread
pub mod B0fCloseThread
pub mod B10ChangeThread
mod B17ReturnFromException
pub mod Served
