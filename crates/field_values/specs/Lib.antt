pub mod Fields
pub mod Leaves
pub mod Meeting
pub mod Places
pub mod Readings
pub mod Sizes
pub mod Views
