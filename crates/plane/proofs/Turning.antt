-- The half-edges round an event in their order, which one comes next, and the classes that this
-- makes.
-- Main lemmas: `NextExists` and `NextOnly`.
-- Serves the law `rotation`.
pub mod ListPlaces
pub mod OneSide
pub mod Rotation
pub mod CellWalls
pub mod InnerClasses
pub mod Directions
pub mod FanTurns
pub mod FanOrder
pub mod RunFans
pub mod NextExists
pub mod NextOnly
pub mod Numbering
pub mod Classes
pub mod AnyWeight
pub mod FanNumbers
pub mod FanWedges
pub mod HalfWays
