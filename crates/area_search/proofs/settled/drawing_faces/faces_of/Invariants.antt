use Rattle.area_search.specs.Settled.FaceNumbers.{HaveFaces}
use Rattle.area_search.proofs.settled.drawing_faces.faces_of.Given as goal

abbrev pub invariant-loop-number : goal.invariant-loop-number
invariant-loop-number l = HaveFaces l.curves l.besides l.numbers l.number l.faces.items
