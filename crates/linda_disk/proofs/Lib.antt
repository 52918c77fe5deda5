pub mod CauseLaws
mod KnownLaws
mod MemDiskLaws
pub mod RunLaws
pub mod RunsLaws
