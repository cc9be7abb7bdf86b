pub mod TimerWords
pub mod TimerLaws
pub mod Laws
