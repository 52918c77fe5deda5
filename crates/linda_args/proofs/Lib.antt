pub mod CommandLaws
pub mod OptionLaws
pub mod TableLaws
pub mod TaskLaws
