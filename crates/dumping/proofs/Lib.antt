pub mod Journal
pub mod Renamed
