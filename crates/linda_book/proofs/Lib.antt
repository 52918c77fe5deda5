pub mod BookLaws
pub mod MeaningLaws
pub mod ReplyFormatLaws
