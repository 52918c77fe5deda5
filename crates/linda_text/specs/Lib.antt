pub mod Steps
pub mod Letters
pub mod Grammar
pub mod Reading
pub mod Places
pub mod Written
