use Rattle.std.proofs.Common.{List, [], ◌∷◌, Some, inl, inr, refl, sym, ap, subst, ◌∙◌}
use Rattle.plane.specs.Runs.Gaps.{Gap}
use Rattle.half_edges.specs.HalfEdges.{HalfEdges}
use Rattle.half_edges.specs.Meshes.{with_faces}
use Rattle.line_sweep.specs.Kinds.{gap_of}
use Rattle.faces.specs.Joined.{HasCell}
use Rattle.faces.specs.Ranking.{AreRooted}
use Rattle.plane_tests.proofs.Bars.{bars_rooted}
use Rattle.plane_tests.proofs.bar_links.bar_notes.Goals as goal

pub links-requires-clause-rooted : goal.links-requires-clause-rooted
links-requires-clause-rooted c =
    subst (λ (m : HalfEdges). AreRooted m cells (0 ∷ []))
    (sym (c.in_ok-labelled.ensures.unchanged
    ∙ ap (λ (m : HalfEdges). with_faces m c.in_ok-labelled.labelled.mesh.face)
    c.in_ok-mesh.ensures))
    (bars_rooted cells between c.in_ok-labelled.labelled.mesh.face)
  where
    cells : List Gap
    cells =
        gap_of c.cell.result ∷ gap_of c.cell-2.result ∷ gap_of c.cell-3.result
        ∷ gap_of c.cell-4.result ∷ gap_of c.cell-5.result ∷ []

    between : HasCell cells (Some 0) (Some 1)
    between = (
      gap_of c.cell-3.result,
      inr (inr (inl refl)),
      ap (λ (g : Gap). g.lower) c.cell-3.ensures,
      ap (λ (g : Gap). g.upper) c.cell-3.ensures,
    )
