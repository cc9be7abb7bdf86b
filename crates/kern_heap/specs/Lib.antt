pub mod Own
pub mod HeapWords
pub mod HeapLaws
