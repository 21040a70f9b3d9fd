pub mod Between
pub mod Numbered
pub mod Places
pub mod Replaying
