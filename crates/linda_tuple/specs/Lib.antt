pub mod Form
pub mod Atom
pub mod Tuple
pub mod Held
pub mod Template
pub mod Matching
pub mod Sameness
pub mod Codes
