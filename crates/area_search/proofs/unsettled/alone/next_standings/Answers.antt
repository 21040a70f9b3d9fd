use Rattle.std.proofs.Common.{List, [], Bool, subst}
use Rattle.plane.specs.Rule.Plans.{plan}
use Rattle.area_search.specs.Unsettled.SetAside.{IsRest, IsSettling}
use Rattle.area_search.proofs.UnsettledLemmas.AloneCurves.{apart_when_left, apart_when_settled}
use Rattle.area_search.proofs.unsettled.alone.next_standings.Goals as goal

pub returns-in-Settled : goal.returns-in-Settled
returns-in-Settled c =
    let d = plan c.args.drawing.now in
    let r = c.in_ok-rest.rest in
    let is = subst (λ (ms : List Bool). IsRest d ms [] r) c.deref.ensures.value
    c.in_ok-rest.ensures in
    let s = subst (IsSettling (plan r.drawing)) c.in-Settled.is c.in_ok-settle.ensures in
    apart_when_settled d c.args.standings.now c.in_ok-after_settling-in-Settled.field-0.items
    c.in_ok-marks.marks.items [] r is c.in_ok-marks.ensures
    c.in_ok-after_settling-in-Settled.ensures
    (λ i j a b. c.breaks_are_of_curves.ensures d (plan r.drawing) 5 i j a b) s.1 c.requires.apart

pub returns-in-Near : goal.returns-in-Near
returns-in-Near c =
    apart_when_left (plan c.args.drawing.now) c.args.standings.now
    c.in_ok-after_leaving-in-Near.field-0.items c.in_ok-after_leaving-in-Near.ensures
    c.requires.apart
