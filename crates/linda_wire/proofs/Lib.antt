pub mod AppendLaws
pub mod LengthLaws
pub mod PayloadLaws
pub mod FrontLaws
