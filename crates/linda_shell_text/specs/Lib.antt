pub mod Words
pub mod EventTexts
pub mod Limits
pub mod Steps
pub mod Reading
pub mod Written
pub mod MessageWords
pub mod OutcomeLines
