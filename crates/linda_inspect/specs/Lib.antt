pub mod Faults
pub mod Whole
pub mod Json
pub mod Object
