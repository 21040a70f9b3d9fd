-- Gaps between neighbours of the live list, from the event that opens one to the event that closes
-- it.
-- Main lemma: `GapCells`, that closed gaps are what lies across a cell.
-- Serves the law `gaps`.
pub mod GapSides
pub mod ClosedGaps
pub mod GapCells
pub mod GapsOnce
pub mod OpenedGaps
