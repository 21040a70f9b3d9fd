use Rattle.faces.specs.Searching.{IsNumberedTo}
use Rattle.faces.specs.Joins.{cells_of}
use Rattle.faces.proofs.labelling.number_faces.Given as goal

abbrev pub invariant-loop-h : goal.invariant-loop-h
invariant-loop-h l = IsNumberedTo l.graph.mesh.now (cells_of l.graph.joins.now) l.h l.count l.search
