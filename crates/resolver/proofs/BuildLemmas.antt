-- A model that is built: types, attributes, numbers and leaves within their limits.
pub mod Types
pub mod Within
pub mod Bounds
pub mod Bounded
pub mod Pushed
pub mod CountedLeaves
pub mod NumberTypes
pub mod ExactNumbers
