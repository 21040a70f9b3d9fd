use Rattle.std.proofs.Common.{ℕ, ◌<◌, List, sym, subst}
use Rattle.half_edges.specs.HalfEdges.{HalfEdges, size}
use Rattle.plane.specs.Lists.{Has}
use Rattle.faces.specs.declared.joins.Joins.{Joins}
use Rattle.faces.specs.Joins.{AreJoins, cells_of}
use Rattle.faces.specs.Ranking.{AreNotes, AreRanks, AreRooted}
use Rattle.faces.proofs.SameJoins.{if_ok, notes_same, rooted_same}
use Rattle.faces.proofs.linking.links_by_joins.Goals as goal

pub ranks_by_number-requires-clause-within : goal.ranks_by_number-requires-clause-within
ranks_by_number-requires-clause-within c =
    subst (λ (m : HalfEdges). (h : ℕ) → Has h c.args.roots.now → h < size m)
    (sym c.new-graph.ensures.mesh) c.requires.within

pub ranks_by_number-requires-clause-rooted : goal.ranks_by_number-requires-clause-rooted
ranks_by_number-requires-clause-rooted c =
    let (cells, joins, rooted) = c.requires.joins in
    let e = c.new-graph.ensures in
    let j = c.args.joins.now in
    let mesh = c.args.labelled.now.mesh in
    let here = subst (λ (m : HalfEdges). AreJoins (size m) (cells_of j) j) e.mesh
    (subst (λ (k : Joins). AreJoins (size c.new-graph.result.mesh.now) (cells_of k) k) e.joins
    e.graph.joins) in
    subst (λ (m : HalfEdges). AreRooted m (cells_of c.new-graph.result.joins.now) c.args.roots.now)
    (sym e.mesh)
    (subst (λ (k : Joins). AreRooted mesh (cells_of k) c.args.roots.now) (sym e.joins)
    (rooted_same mesh cells (cells_of j) j joins here c.args.roots.now rooted))

pub returns : goal.returns
returns c =
    let e = c.new-graph.ensures in
    let j = c.args.joins.now in
    let mesh = c.args.labelled.now.mesh in
    let here = subst (λ (m : HalfEdges). AreJoins (size m) (cells_of j) j) e.mesh
    (subst (λ (k : Joins). AreJoins (size c.new-graph.result.mesh.now) (cells_of k) k) e.joins
    e.graph.joins) in
    let ranks : AreRanks c.new-graph.result.mesh.now
    (cells_of c.new-graph.result.joins.now) c.args.roots.now c.deref.result.now =
    subst (λ (rs : List ℕ). AreRanks c.new-graph.result.mesh.now
    (cells_of c.new-graph.result.joins.now) c.args.roots.now rs)
    (sym c.deref.ensures.value) c.in_ok-ranks.ensures in
    if_ok _ _ c.notes_of.result
    (λ notes f cells joins. notes_same mesh
    (cells_of j) cells j here joins c.args.roots.now notes.items
    (subst (λ (m : HalfEdges). AreNotes m (cells_of j) c.args.roots.now notes.items) e.mesh
    (subst (λ (k : Joins). AreNotes c.new-graph.result.mesh.now
    (cells_of k) c.args.roots.now notes.items) e.joins (f c.args.roots.now ranks))))
    c.notes_of.ensures
