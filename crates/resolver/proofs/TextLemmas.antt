-- A text has one model, one meaning and one first broken rule at most.
pub mod OneStanding
pub mod OneModel
pub mod BrokenNames
pub mod SpeltNames
pub mod TokenPlaces
pub mod OneFirstBroken
pub mod NumberTokens
pub mod BoundValues
