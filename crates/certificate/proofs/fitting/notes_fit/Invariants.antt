use Rattle.std.proofs.Common.{take}
use Rattle.std.specs.List.{AllByRecursion}
use Rattle.certificate.specs.Spelling.{FitsHalf}
use Rattle.certificate.proofs.fitting.notes_fit.Given as goal

abbrev pub invariant-loop-note : goal.invariant-loop-note
invariant-loop-note l = AllByRecursion FitsHalf (take l.note-index l.notes)
