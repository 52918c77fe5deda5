pub mod IdLaws
pub mod RowLaws
pub mod BlockLaws
pub mod MapLaws
pub mod RunLaws
pub mod UpToLaws
