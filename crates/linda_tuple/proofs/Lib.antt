pub mod MatchingLaws
