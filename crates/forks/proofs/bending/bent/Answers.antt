use Rattle.std.proofs.Common.{◌<◌, ◌^◌, length, rules, subst, sym, ◌∙◌}
use Rattle.std.specs.List.{All}
use Rattle.plane.specs.Rule.Plans.{plan}
use Rattle.plane.specs.Rule.Windows.{IsInside}
use Rattle.plane.specs.declared.kinds.Placed.{Placed}
use Rattle.forks.proofs.BentDrawings.{all_drawn, not_large}
use Rattle.forks.proofs.bending.bent.Goals as goal

pub invariant_of-result-clause-curves_drawn : goal.invariant_of-result-clause-curves_drawn
invariant_of-result-clause-curves_drawn c =
    let w = c.args.drawing.now in
    all_drawn w.tolerance (plan w) c.in_ok-pieces.pieces.curves.items
    c.in_ok-pieces.pieces.origin.items c.in_ok-pieces.ensures w.curves_drawn

pub invariant_of-result-clause-few_curves : goal.invariant_of-result-clause-few_curves
invariant_of-result-clause-few_curves c =
    let w = c.args.drawing.now in
    let l : length c.in_ok-pieces.pieces.curves.items < 2 ^ 30 = not_large w.tolerance
    (plan w) c.in_ok-pieces.pieces.curves.items c.in_ok-pieces.pieces.origin.items
    c.in_ok-pieces.ensures c.requires.few in
    search rules

pub invariant_of-result-clause-points_inside : goal.invariant_of-result-clause-points_inside
invariant_of-result-clause-points_inside c =
    let w = c.args.drawing.now in
    subst (All (λ (p : Placed). IsInside w.window.low w.window.high p.at))
    (sym (c.in_ok-points.ensures.items ∙ c.deref.ensures.value)) w.points_inside
