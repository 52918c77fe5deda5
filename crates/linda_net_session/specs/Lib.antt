pub mod Place
pub mod Session
pub mod Lawful
pub mod Turns
pub mod Between
