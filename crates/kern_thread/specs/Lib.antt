pub mod Own
pub mod ThreadWords
pub mod ThreadLaws
