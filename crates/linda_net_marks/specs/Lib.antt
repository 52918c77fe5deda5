pub mod Busy
pub mod Counting
pub mod Word
