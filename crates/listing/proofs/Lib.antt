pub mod Call
pub mod Ends
pub mod Entries
pub mod Lines
pub mod Sizes
pub mod Steps
