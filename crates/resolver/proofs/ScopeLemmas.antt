-- Domains: the levels of the search for circles, and that each way ends at one type.
pub mod Levels
pub mod Meanings
pub mod DomainRules
pub mod Circles
pub mod EndedWays
pub mod PlacedNames
pub mod Ends
pub mod Kept
