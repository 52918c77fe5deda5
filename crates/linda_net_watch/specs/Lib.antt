pub mod Alerts
pub mod Preallocation
