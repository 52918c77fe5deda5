pub mod PairLaws
pub mod CallLaws
pub mod EmptyLaws
pub mod OpeningLaws
mod ReopeningLaws
mod SwitchLaws
mod PreallocationLaws
mod ReservingLaws
mod NextLaws
mod SteppingLaws
mod RewritesLaws
mod SameLaws
pub mod NodeLaws
pub mod FallenLaws
mod AgainLaws
mod LeftLaws
mod KnownLaws
mod LivesLaws
mod GoingLaws
mod HandledLaws
mod CommitLaws
mod CauseLaws
mod CopyingLaws
