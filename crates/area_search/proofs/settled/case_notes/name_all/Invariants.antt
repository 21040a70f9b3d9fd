use Rattle.area_search.specs.Settled.CaseNotes.{AreNamed}
use Rattle.area_search.proofs.settled.case_notes.name_all.Given as goal

abbrev pub invariant-loop-edge : goal.invariant-loop-edge
invariant-loop-edge l = AreNamed l.points l.edge l.facings l.edge_owners l.owners l.fn.notes l.notes
