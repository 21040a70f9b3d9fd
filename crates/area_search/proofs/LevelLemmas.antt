-- A sweep of the edges of a level shows whether it settles the drawing.
-- Serves `shown_by_sweep`.
pub mod LevelSearch
pub mod CellSideLemmas
pub mod OwnCornerLemmas
