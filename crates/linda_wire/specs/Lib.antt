pub mod Frames
pub mod FrameLaws
pub mod Stream
pub mod Refusal
pub mod Offset
