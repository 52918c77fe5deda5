pub mod BoxLaws
pub mod WaitLaws
pub mod NextLaws
