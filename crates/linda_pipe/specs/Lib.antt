pub mod Exchanges
pub mod Hex
pub mod Lines
pub mod Piping
pub mod Statuses
