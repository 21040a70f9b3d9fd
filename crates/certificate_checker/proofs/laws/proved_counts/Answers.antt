use Rattle.certificate_checker.proofs.ProvedCounts.{notes_fit, positions_fit}
use Rattle.certificate_checker.proofs.laws.proved_counts.Goals as goal

pub returns-clause-level : goal.returns-clause-level
returns-clause-level given d claims h = h.rules.counts.edges.low

pub returns-clause-positions : goal.returns-clause-positions
returns-clause-positions given = positions_fit

pub returns-clause-notes : goal.returns-clause-notes
returns-clause-notes given = notes_fit

pub returns-clause-places : goal.returns-clause-places
returns-clause-places given d claims h = h.rules.counts.places
