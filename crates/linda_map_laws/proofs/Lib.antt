pub mod MapLaws
pub mod SumLaws
