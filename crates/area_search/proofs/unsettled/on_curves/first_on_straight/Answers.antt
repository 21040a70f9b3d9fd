use Rattle.std.proofs.Common.{List, [], map, length, refl, arith, ap, sym, subst, ◌∙◌}
use Rattle.plane.specs.Rule.Plans.{plan}
use Rattle.plane.specs.Runs.Moves.{steps_from}
use Rattle.plane.specs.Runs.Steps.{Run}
use Rattle.plane.specs.declared.kinds.Edge.{Edge}
use Rattle.plane.specs.declared.kinds.Placed.{Placed}
use Rattle.point_location.specs.Places.{ArePlaces}
use Rattle.point_location.specs.declared.places.Place.{Place}
use Rattle.straight_predicates.specs.EdgeLists.{edge_of}
use Rattle.meetings.specs.StraightEdges.{AreStraightsTo}
use Rattle.area_search.specs.Unsettled.CurvePoints.{IsFirstOn}
use Rattle.area_search.specs.declared.points.OnCurve.{OnCurve}
use Rattle.area_search.proofs.SettledLemmas.CaseEdges.{get_same}
use Rattle.area_search.proofs.UnsettledLemmas.PointsOnCurves.{edge_here, first_is, none_on}
use Rattle.area_search.proofs.UnsettledLemmas.PointsOnCurves.{points_close}
use Rattle.area_search.proofs.unsettled.on_curves.first_on_straight.Goals as goal

pub locate-requires-clause-close : goal.locate-requires-clause-close
locate-requires-clause-close c =
    let w = c.args.drawing.now in
    let d = plan w in
    let es = c.deref-2.result.now in
    let ns = c.args.straights.now.numbers.items in
    let vs = c.args.swept.now.events in
    let s = subst (λ (xs : List Edge). AreStraightsTo d.curves (length d.curves) xs ns)
    (sym c.deref-2.ensures.value) c.requires.straights in
    let r = subst (λ (xs : List Edge). Run (length xs) (edge_of xs) (steps_from [] vs))
    (sym c.deref-2.ensures.value) c.requires.run in
    let p = c.deref-3.ensures.value ∙ c.in_ok-points.ensures
    ∙ ap (map (λ (x : Placed). x.at)) c.deref.ensures.value in
    points_close d es ns vs s r c.deref-3.result.now p w.curves_drawn w.points_inside

pub returns-in-Some : goal.returns-in-Some
returns-in-Some c =
    let d = plan c.args.drawing.now in
    let es = c.deref-2.result.now in
    let ns = c.args.straights.now.numbers.items in
    let vs = c.args.swept.now.events in
    let s = subst (λ (xs : List Edge). AreStraightsTo d.curves (length d.curves) xs ns)
    (sym c.deref-2.ensures.value) c.requires.straights in
    let r = subst (λ (xs : List Edge). Run (length xs) (edge_of xs) (steps_from [] vs))
    (sym c.deref-2.ensures.value) c.requires.run in
    let p = c.deref-3.ensures.value ∙ c.in_ok-points.ensures
    ∙ ap (map (λ (x : Placed). x.at)) c.deref.ensures.value in
    let places = c.deref-4.result.now in
    let are = subst (λ (ps : List Place). ArePlaces es vs c.deref-3.result.now ps)
    (sym c.deref-4.ensures.value) c.in_ok-places.ensures in
    let f = subst (IsFirstOn places) c.in-Some.is c.first_on.ensures in
    let l = edge_here d es ns vs s r c.deref-3.result.now places p are c.in-Some.on f in
    let z = s.size in
    let on : OnCurve = record { point = c.in-Some.on.point; curve = c.index.result.now } in
    first_is d es ns vs s r c.deref-3.result.now places p are c.in-Some.on on f refl
    (c.index.ensures ∙ get_same ns c.in-Some.on.curve _ 0 (omega (arith, l, z)))

pub returns : goal.returns
returns c =
    let d = plan c.args.drawing.now in
    let es = c.deref-2.result.now in
    let ns = c.args.straights.now.numbers.items in
    let vs = c.args.swept.now.events in
    let s = subst (λ (xs : List Edge). AreStraightsTo d.curves (length d.curves) xs ns)
    (sym c.deref-2.ensures.value) c.requires.straights in
    let r = subst (λ (xs : List Edge). Run (length xs) (edge_of xs) (steps_from [] vs))
    (sym c.deref-2.ensures.value) c.requires.run in
    let p = c.deref-3.ensures.value ∙ c.in_ok-points.ensures
    ∙ ap (map (λ (x : Placed). x.at)) c.deref.ensures.value in
    let places = c.deref-4.result.now in
    let are = subst (λ (ps : List Place). ArePlaces es vs c.deref-3.result.now ps)
    (sym c.deref-4.ensures.value) c.in_ok-places.ensures in
    none_on d es ns vs s r c.deref-3.result.now places p are
    (subst (IsFirstOn places) c.in-None.is c.first_on.ensures)
