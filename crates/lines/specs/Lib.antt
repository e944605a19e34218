pub mod Limits
pub mod Lists
pub mod Report
pub mod Requests
pub mod Start
pub mod Whole
