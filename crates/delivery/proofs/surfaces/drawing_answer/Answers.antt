use Rattle.std.proofs.Common.{◌≡◌, false, List, subst, ◌∙◌, rules}
use Rattle.plane.specs.declared.kinds.Edge.{Edge}
use Rattle.surface_rings.specs.Surfaces.{IsRingAnswer}
use Rattle.tubes.specs.DrawnEdges.{AreAllStraight}
use Rattle.delivery.specs.SurfaceAnswers.{outline}
use Rattle.delivery.proofs.SurfaceSteps.{by_rings, some_curve}
use Rattle.delivery.proofs.surfaces.drawing_answer.Goals as goal

pub ring_answer-requires : goal.ring_answer-requires
ring_answer-requires c = λ u.
    subst (λ (es : List Edge). IsRingAnswer u es c.in_ok-answer.answer)
    (c.deref-2.ensures.value ∙ c.in_ok-edges.ensures.edges) (c.in_ok-answer.ensures.answer u)

pub returns : goal.returns
returns c =
    let cs = c.args.drawing.now.curves.items in
    let no : c.has_half_arc.result ≡ false = search rules in
    let straight = subst AreAllStraight c.deref.ensures.value (c.has_half_arc.ensures.none no) in
    by_rings (outline c.args.line cs) (some_curve cs (search rules)) straight c.ring_answer.result
    c.ring_answer.ensures
