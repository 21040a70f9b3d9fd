pub mod CurveBoxes
pub mod CurvePairs
pub mod PlacedCurves
pub mod StraightEdges
pub mod StraightRuns
