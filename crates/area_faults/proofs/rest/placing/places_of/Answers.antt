use Rattle.std.proofs.Common.{ℕ, ◌<◌, List, length, slice_index_or, ◌∙◌, subst, sym}
use Rattle.plane.specs.declared.kinds.Edge.{Edge}
use Rattle.plane.specs.declared.kinds.Point.{Point}
use Rattle.plane.specs.Rule.Plans.{plan}
use Rattle.straight_predicates.specs.EdgeLists.{IsCloseToAll, no_point}
use Rattle.area_faults.specs.RestFaces.{half_points}
use Rattle.area_faults.proofs.CloseEdges.{points_close}
use Rattle.area_faults.proofs.rest.placing.places_of.Goals as goal

pub locate-requires-clause-close : goal.locate-requires-clause-close
locate-requires-clause-close c =
    let w = c.args.drawing.now in
    let d = plan w in
    let left = c.args.left.now in
    let (kept, known, same) = c.requires.edges in
    subst (λ (ps : List Point). (j : ℕ) → j < length ps
    → IsCloseToAll c.deref.result.now (slice_index_or ps j no_point))
    (sym (c.deref-2.ensures.value ∙ c.in_ok-points.ensures))
    (subst (λ (es : List Edge). (j : ℕ) → j < length (half_points d left)
    → IsCloseToAll es (slice_index_or (half_points d left) j no_point))
    (sym (c.deref.ensures.value ∙ same))
    (points_close d w.window.low w.window.high w.window.narrow w.curves_drawn kept known
    w.points_inside left c.requires.left))
