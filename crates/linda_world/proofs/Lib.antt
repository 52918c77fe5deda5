pub mod NotedLaws
pub mod ServedLaws
pub mod MemberLaws
pub mod MessageLaws
pub mod SceneLaws
pub mod WorldLaws
