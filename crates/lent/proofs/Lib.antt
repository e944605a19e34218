pub mod Clearing
pub mod References
pub mod Determined
