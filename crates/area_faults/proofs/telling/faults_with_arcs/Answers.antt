use Rattle.std.proofs.Common.{inr, true, ◌∙◌}
use Rattle.plane.specs.Rule.Plans.{plan}
use Rattle.area_faults.proofs.ToldFaults.{all_out, pairs_for_all, points_below, some_of_all}
use Rattle.area_faults.proofs.telling.faults_with_arcs.Goals as goal

pub told-requires-clause-below : goal.told-requires-clause-below
told-requires-clause-below c =
    let h = rw c.in-Some.is at c.in_ok-points_on_marked.ensures.some in
    points_below (plan c.args.drawing.now) c.deref.result.now c.in-Some.pairs.items
    c.deref-in-Some.result.now _ c.deref-in-Some.ensures.value
    c.in_ok-faces-in-Some.ensures.points h

pub faults_by_ground-requires-clause-told : goal.faults_by_ground-requires-clause-told
faults_by_ground-requires-clause-told c =
    let d = plan c.args.drawing.now in
    let h = rw c.in-Some.is at c.in_ok-points_on_marked.ensures.some in
    c.in_ok-faults-in-Some.ensures.faults (λ i. true)
    (all_out d c.args.meetings.items) c.in_ok-faces-in-Some.ensures.faces
    (pairs_for_all d c.in_ok-out.out.items c.deref.result.now c.in-Some.pairs.items
    c.deref-in-Some.result.now c.len.result c.deref.ensures.value c.deref-in-Some.ensures.value
    (c.len.ensures ∙ c.args.drawing.now.curves.ok.0) c.in_ok-out.ensures.marked h)

pub returns-in-None : goal.returns-in-None
returns-in-None c = record {
  some = some_of_all (plan c.args.drawing.now) c.args.meetings.items c.requires.meetings;
  unsettled = c.requires.unsettled;
  more = inr (c.requires.meetings, c.in_ok-points_on_marked.ensures.none c.in-None.is);
}
