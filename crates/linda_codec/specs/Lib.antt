pub mod Steps
pub mod Formats
pub mod Lawful
pub mod Values
pub mod Places
