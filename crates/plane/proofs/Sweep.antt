-- A sweep that tests new neighbours: it goes on while no pair is bad, and ends as a complete run.
-- Main lemmas: `SweepEnd`, and `Finding`, that a bad pair is found.
-- Serves the law `sweeps`.
pub mod SweepWords
pub mod Pairs
pub mod Fronts
pub mod Fans
pub mod Steps
pub mod NextStep
pub mod SweepEnd
pub mod Finding
pub mod Meets
pub mod Deciding
pub mod Decisions
pub mod SweepTests
pub mod UnderWay
pub mod NewNeighbours
