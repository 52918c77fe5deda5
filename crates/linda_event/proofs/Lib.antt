pub mod MemberLaws
pub mod NodeLaws
pub mod PushLaws
pub mod SeekLaws
pub mod ViewLaws
