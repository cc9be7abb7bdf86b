pub mod Own
pub mod MemWords
pub mod MemLaws
pub mod Laws
pub mod MoveLaws
