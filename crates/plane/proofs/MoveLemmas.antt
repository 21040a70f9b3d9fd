-- Events with their positions make the steps of a replay, and the timetable of edges is the only
-- one.
-- Main lemma: `TimetableRuns`, that moves which pass their tests are a complete run.
-- Serves the law `moves`.
pub mod MadeSteps
pub mod Slopes
pub mod OneTimetable
pub mod TimetableRuns
pub mod RunMoves
