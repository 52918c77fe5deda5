pub mod Commands
pub mod Entries
pub mod Options
pub mod Ports
pub mod Rules
