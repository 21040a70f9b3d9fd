pub mod Sums
pub mod CircleNumbers
pub mod TestParts
pub mod PlaceNumbers
pub mod TrialSides
