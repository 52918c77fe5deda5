pub mod World
pub mod Steps
pub mod Reached
pub mod Promises
pub mod Honest
pub mod Reasons
pub mod Below
