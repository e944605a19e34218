pub mod Window
pub mod Span
pub mod Listing
pub mod Table
