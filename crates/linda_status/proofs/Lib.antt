pub mod ListedLaws
pub mod TaggedLaws
