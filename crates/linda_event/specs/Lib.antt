pub mod Trees
pub mod Paths
pub mod Limits
pub mod Bases
pub mod Ways
pub mod Codes
