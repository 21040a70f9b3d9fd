-- Runs over the edge list of a drawing with half arcs, their labels, places and certificates.
-- Main definitions: `TubedRuns.IsTubedRun` and `CertifiedCurves.CertifiedCurves`.
-- The laws `arc_drawings`, `settled`, `arc_areas` and `cuts` speak in these words.
pub mod Extended
pub mod TubedRuns
pub mod CertifiedCurves
pub mod Levels
pub mod FacedTubes
pub mod FacePlaces
pub mod RegionPoints
