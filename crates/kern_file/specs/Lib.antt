pub mod Own
pub mod FileWords
pub mod FileLaws
pub mod CallLaws
pub mod LineLaws
