pub mod Digits
pub mod Putting
pub mod Paging
pub mod Inside
pub mod Determined
