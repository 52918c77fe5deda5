pub mod SnapshotLaws
pub mod RisingLaws
pub mod PuttingLaws
pub mod EntryLaws
pub mod ReadingLaws
pub mod StateLaws
pub mod BankWriterLaws
pub mod BankRecordLaws
pub mod StandsLaws
pub mod ReplayLaws
pub mod ChoiceLaws
pub mod AppendLaws
pub mod SnapshotWriterLaws
pub mod ClientsLaws
pub mod BookCopyLaws
mod CauseLaws
