pub mod Yields
pub mod Append
pub mod Journals
pub mod OurWriter
pub mod Numbers
pub mod Accepted
pub mod Laws
