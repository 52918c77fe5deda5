pub mod Seat
pub mod Heard
pub mod Hearing
pub mod Router
pub mod Queue
pub mod Turns
