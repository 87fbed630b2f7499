pub mod Plan
pub mod Reading
pub mod Place
pub mod Cut
pub mod Journal
