use Rattle.std.proofs.Common.{ℕ, ap, sym, ◌∙◌, subst}
use Rattle.half_edges.specs.HalfEdges.{HalfEdges, size}
use Rattle.half_edges.specs.Meshes.{AgreesAlong}
use Rattle.faces.specs.declared.joins.Joins.{Joins}
use Rattle.faces.specs.Joins.{AreJoins, cells_of}
use Rattle.faces.specs.Labels.{AreFaces}
use Rattle.faces.specs.Searching.{IsNumberedTo}
use Rattle.faces.proofs.Numbering.{faces_agree, faces_are, numbering_begun}
use Rattle.faces.proofs.SameJoins.{faces_same}
use Rattle.faces.proofs.labelling.find_faces.Goals as goal

pub number_faces-count-requires-clause-begun : goal.number_faces-count-requires-clause-begun
number_faces-count-requires-clause-begun c =
    let b = c.reach_border.ensures in
    let s = c.spread.ensures in
    let g = c.new-graph.result in
    numbering_begun g.mesh.now (cells_of g.joins.now) c.reach_border.new.search c.spread.new.search
    b.searched b.passed b.waiting b.border s.searched s.done s.kept s.given

pub returns-clause-faces : goal.returns-clause-faces
returns-clause-faces c = λ cells joins.
    let g = c.new-graph.result in
    let e = c.new-graph.ensures in
    let faces = c.number_faces-count.new.search.faces.items in
    let n = subst
    (λ (k : ℕ). IsNumberedTo g.mesh.now
    (cells_of g.joins.now) k c.number_faces-count.result c.number_faces-count.new.search)
    (c.halves_of-halves.ensures.size ∙ ap size (sym e.mesh)) c.number_faces-count.ensures in
    let found = faces_are g.mesh.now (cells_of g.joins.now) e.graph.mesh_is e.graph.joins.known
    c.number_faces-count.result c.number_faces-count.new.search n in
    let own = subst (λ (m : HalfEdges). AreFaces m (cells_of c.args.joins.now) faces) e.mesh
    (subst (λ (j : Joins). AreFaces g.mesh.now (cells_of j) faces) e.joins found) in
    let here = subst
    (λ (m : HalfEdges). AreJoins (size m) (cells_of c.args.joins.now) c.args.joins.now) e.mesh
    (subst (λ (j : Joins). AreJoins (size g.mesh.now) (cells_of j) j) e.joins e.graph.joins) in
    faces_same c.args.mesh.now (cells_of c.args.joins.now) cells c.args.joins.now here joins faces
    own

pub returns-clause-agree : goal.returns-clause-agree
returns-clause-agree c =
    let g = c.new-graph.result in
    let e = c.new-graph.ensures in
    let n = subst
    (λ (k : ℕ). IsNumberedTo g.mesh.now
    (cells_of g.joins.now) k c.number_faces-count.result c.number_faces-count.new.search)
    (c.halves_of-halves.ensures.size ∙ ap size (sym e.mesh)) c.number_faces-count.ensures in
    subst (λ (m : HalfEdges). AgreesAlong m.next c.number_faces-count.new.search.faces.items) e.mesh
    (faces_agree g.mesh.now (cells_of g.joins.now) c.number_faces-count.new.search.faces.items
    e.graph.mesh_is
    (faces_are g.mesh.now (cells_of g.joins.now) e.graph.mesh_is e.graph.joins.known
    c.number_faces-count.result c.number_faces-count.new.search n))
