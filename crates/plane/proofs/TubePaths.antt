-- Paths of a run with tubes are paths of the drawing, and each side of a half arc in its tube is
-- one piece.
-- Main lemmas: `Extended`, that a path keeps the label of its places, and `WaysOut`.
-- Serves the laws `arc_drawings::places_have_labels` and `arc_areas::ways_lead_out_of_tubes`.
pub mod Bounding
pub mod Outside
pub mod Exits
pub mod AwayFrom
pub mod Extended
pub mod TubeSides
pub mod TubePieces
pub mod TubedSides
pub mod WaysOut
pub mod TubedPaths
pub mod CurveFaces
pub mod ThroughEnds
pub mod LoneTubeEnds
pub mod PieceWords
