pub mod Entries
pub mod Codes
pub mod Classes
pub mod Sameness
pub mod ReplyFormat
