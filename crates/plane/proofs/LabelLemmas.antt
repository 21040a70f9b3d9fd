-- Labels that match at each event are one number on each cell, and paths keep them.
-- Main lemma: `HalfLabels`.
-- Serves the law `labelling`.
pub mod LabelWords
pub mod Matches
pub mod MatchedLists
pub mod HalfLabels
pub mod PairedSides
