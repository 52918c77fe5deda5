pub mod ServerEvents
pub mod GreetingCourse
