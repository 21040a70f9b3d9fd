pub mod Circles
pub mod Trials
