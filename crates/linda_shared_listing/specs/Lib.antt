pub mod Firsts
pub mod Listing
pub mod Shapes
pub mod Clients
pub mod Taken
pub mod Kinds
pub mod Longest
pub mod Gathered
