pub mod Counts
pub mod Joined
pub mod Joins
pub mod Labels
pub mod Ranking
pub mod Rows
pub mod Searching
pub mod Starts
