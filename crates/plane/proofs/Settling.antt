-- When the edges of a drawing with half arcs settle it, and what face numbers then say of the
-- tubes.
-- Main lemmas: `RunFaces`, that face numbers of a settled run are labels, and `LabelsSettle`.
-- Serves the law `settled`.
pub mod EdgesAndTubes
pub mod EdgesSettled
pub mod DrawnTubes
pub mod SettledEdges
pub mod SettledFans
pub mod SettledChains
pub mod SettledCells
pub mod SettledFaces
pub mod SettledRuns
pub mod TubeFaces
pub mod RunLevels
pub mod RunFaces
pub mod LabelsSettle
pub mod BlankLabels
pub mod OneTubeOwned
pub mod OtherPoints
