pub mod Connected
pub mod Joining
pub mod Wire
