pub mod Ordered
pub mod LineNumber
pub mod EntryReading
pub mod SameEntries
pub mod OneAnswer
pub mod EachText
pub mod LineLength
