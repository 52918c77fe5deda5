pub mod Status
pub mod Listed
pub mod Tags
pub mod Longest
pub mod About
pub mod Tagged
