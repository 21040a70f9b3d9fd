use Rattle.std.proofs.Common.{List, ap, length, sym, subst, ◌∙◌, ℕ}
use Rattle.half_edges.specs.HalfEdges.{HalfEdges}
use Rattle.half_edges.specs.Meshes.{AgreesAlong}
use Rattle.faces.specs.Labels.{AreFaces}
use Rattle.faces.proofs.labelling.label_by.Goals as goal

pub set_faces-requires-clause-agree : goal.set_faces-requires-clause-agree
set_faces-requires-clause-agree c =
    subst (λ (ns : List ℕ). AgreesAlong c.args.mesh.next ns)
    (sym c.deref.ensures.value) c.in_ok-found.ensures.agree

pub set_faces-requires-clause-each : goal.set_faces-requires-clause-each
set_faces-requires-clause-each c =
    let (cells, joins) = c.requires.joins in
    ap length c.deref.ensures.value ∙ (c.in_ok-found.ensures.faces cells joins).size_is

pub returns-clause-faces : goal.returns-clause-faces
returns-clause-faces c = λ cells joins.
    subst (λ (fs : List ℕ). AreFaces c.args.mesh cells fs)
    (sym (ap (λ (m : HalfEdges). m.face) c.set_faces.ensures ∙ c.deref.ensures.value))
    (c.in_ok-found.ensures.faces cells joins)
