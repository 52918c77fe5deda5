mod AccountsLaws
mod RingLaws
mod CutLaws
mod PlaceLaws
mod LastLaws
pub mod RecallLaws
pub mod TellingLaws
pub mod WeightLaws
