pub mod Examples
pub mod States
pub mod Only
