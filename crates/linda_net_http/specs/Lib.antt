pub mod Response
pub mod HttpExchange
pub mod Head
pub mod Host
pub mod Target
