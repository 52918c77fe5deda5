pub mod HeadLaws
pub mod PassLaws
