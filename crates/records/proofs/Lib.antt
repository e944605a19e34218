pub mod Recording
pub mod Marked
pub mod Determined
