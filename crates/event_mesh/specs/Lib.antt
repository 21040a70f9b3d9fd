pub mod Built
pub mod Fans
pub mod Turned
