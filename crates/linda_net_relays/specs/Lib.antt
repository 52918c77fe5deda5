pub mod Placing
pub mod Share
pub mod Spans
