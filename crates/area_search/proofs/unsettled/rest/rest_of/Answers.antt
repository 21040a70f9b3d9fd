use Rattle.std.proofs.Common.{All, IfOk, List, subst, sym, ◌∙◌}
use Rattle.plane.specs.Rule.Plans.{plan}
use Rattle.plane.specs.Rule.Windows.{IsInside}
use Rattle.plane.specs.declared.kinds.Placed.{Placed}
use Rattle.area_search.specs.Unsettled.SetAside.{IsRest}
use Rattle.area_search.proofs.unsettled.rest.rest_of.Goals as goal

pub rest_with-requires-clause-inside : goal.rest_with-requires-clause-inside
rest_with-requires-clause-inside c =
    let w = c.args.drawing.now in
    subst (All (λ (p : Placed). IsInside w.window.low w.window.high p.at))
    (sym (c.in_ok-points.ensures.items ∙ c.deref.ensures.value)) w.points_inside

pub returns : goal.returns
returns c =
    let d = plan c.args.drawing.now in
    subst (λ (ps : List Placed). IfOk c.rest_with.result (IsRest d c.args.marks.now ps))
    (c.in_ok-points.ensures.items ∙ c.deref.ensures.value) c.rest_with.ensures
