use Rattle.std.proofs.Common.{List, ap, subst, sym, ◌∙◌}
use Rattle.faces.specs.Joined.{AreKnown}
use Rattle.half_edges.specs.HalfEdges.{size}
use Rattle.line_sweep.specs.Kinds.{gaps_of}
use Rattle.line_sweep.specs.declared.kinds.Cell.{Cell}
use Rattle.area_faults.proofs.RunFaces.{known_cells, run_faces}
use Rattle.area_faults.proofs.rest.labelling.labelled_run.Goals as goal

pub label-requires : goal.label-requires
label-requires c = record {
  known = subst (λ (cs : List Cell). AreKnown (size c.in_ok-mesh.mesh) (gaps_of cs))
      (sym (c.deref.ensures.value ∙ c.cells_alone-cells.ensures))
      (known_cells c.args.edges c.args.swept.events c.requires.fit c.requires.run c.in_ok-mesh.mesh
      c.in_ok-mesh.ensures.turned (gaps_of c.args.swept.cells.items) c.requires.cells);
}

pub returns : goal.returns
returns c =
    let l = c.in_ok-labelled.ensures in
    run_faces c.args.edges c.args.swept.events c.requires.fit c.requires.run c.in_ok-mesh.mesh
    c.in_ok-mesh.ensures.turned c.faces_of_runs.ensures
    (gaps_of c.deref.result.now) (ap gaps_of (c.deref.ensures.value ∙ c.cells_alone-cells.ensures)
    ∙ c.requires.cells) c.in_ok-labelled.labelled l.unchanged
    c.edges.ensures.kept l.faces l.count
