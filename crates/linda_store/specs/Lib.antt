pub mod Node
pub mod Volatile
pub mod Turn
pub mod Sending
pub mod Conversation
pub mod Session
pub mod Converse
pub mod Sound
