pub mod Addressed
pub mod Batch
pub mod Greeting
pub mod Group
pub mod Working
