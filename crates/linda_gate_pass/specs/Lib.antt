pub mod Gating
pub mod Head
pub mod Passing
