-- Segments that hit or miss a half arc, and boxes that hold it.
-- Main lemma: `NearPairs`, that the boxes of two bad curves share a place.
-- Serves the law `arcs`, and those of `arc_areas` on segments that cross a half arc.
pub mod HitWords
pub mod ArcHits
pub mod ArcSides
pub mod Misses
pub mod NearMisses
pub mod AfterArcs
pub mod ArcEntries
pub mod Turned
pub mod Boxes
pub mod ArcBoxes
pub mod ArcReach
pub mod NearPairs
