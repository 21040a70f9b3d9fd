pub mod Text
pub mod Verdicts
pub mod Report
