pub mod StepLaws
pub mod EndLaws
mod DigitLaws
