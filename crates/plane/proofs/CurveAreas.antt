-- Faces of a drawing with half arcs: labels and face numbers tell joined and outer places, points
-- and sides.
-- Main lemmas: `TubedPartition`, that a certificate proves the rule, and `TubedCompleteness`.
-- Serves the laws `arc_areas` and `cuts`.
pub mod TubedFaces
pub mod TubedPoints
pub mod TubedPartition
pub mod TubedCompleteness
pub mod RegionPoints
pub mod ArcSideLabels
pub mod CrossedStraights
pub mod StraightCrossings
pub mod EmptyHalfArcs
pub mod EmptyStraights
pub mod FaceLabels
pub mod FaceSides
pub mod PlacedFaces
pub mod SettledPlaces
pub mod SettledCertificates
pub mod CutCurves
pub mod FaceCuts
