use Rattle.std.proofs.Common.{take}
use Rattle.std.specs.List.{AllByRecursion}
use Rattle.certificate.specs.Spelling.{FitsPlace}
use Rattle.certificate.proofs.fitting.places_fit.Given as goal

abbrev pub invariant-loop-place : goal.invariant-loop-place
invariant-loop-place l = AllByRecursion FitsPlace (take l.place-index l.places)
