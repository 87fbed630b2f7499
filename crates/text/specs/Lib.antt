pub mod Text
pub mod Sizes
pub mod Value
pub mod Written
