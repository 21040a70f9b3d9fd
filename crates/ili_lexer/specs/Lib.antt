pub mod Bytes
pub mod Keywords
pub mod Fronts
pub mod Places
pub mod Tokens
pub mod Forms
pub mod Longest
