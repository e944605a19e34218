pub mod Sheet
pub mod Scan
pub mod Codes
pub mod Promise
pub mod Table
