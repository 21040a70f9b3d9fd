use Rattle.std.proofs.Common.{length, subst}
use Rattle.plane.specs.Rule.Plans.{plan}
use Rattle.near_pairs.specs.LeastPairs.{IsLeastPair}
use Rattle.meetings.proofs.CurveLists.{lent_size, near_lent, no_pair_lent, pair_is_least, seeks}
use Rattle.meetings.proofs.arcs.arc_meeting_among.Goals as goal

pub least-requires-clause-near : goal.least-requires-clause-near
least-requires-clause-near c =
    near_lent (plan c.args.drawing.now) c.as_slice-curves.result.now c.in_ok-reaches.reaches.items
    c.deref.result.now c.args.marked.now c.as_slice-curves.ensures.value c.deref.ensures.value
    c.in_ok-reaches.ensures c.requires.marked
    c.boxes_of_bad_curves_meet.ensures.bad

pub returns-in-Some-clause-least : goal.returns-in-Some-clause-least
returns-in-Some-clause-least c =
    let h = rw c.in-Some.is at c.in_ok-pair.ensures.some in
    pair_is_least (plan c.args.drawing.now) (length c.deref.result.now)
    (lent_size c.args.drawing.now.curves.items c.as_slice-curves.result.now
    c.in_ok-reaches.reaches.items c.deref.result.now c.as_slice-curves.ensures.value
    c.deref.ensures.value c.in_ok-reaches.ensures) c.in-Some.pair
    (subst (λ cs. IsLeastPair (seeks cs) (length c.deref.result.now) c.in-Some.pair)
    c.as_slice-curves.ensures.value h)

pub returns-clause-none : goal.returns-clause-none
returns-clause-none c = λ e.
    no_pair_lent (plan c.args.drawing.now) c.as_slice-curves.result.now (length c.deref.result.now)
    (lent_size c.args.drawing.now.curves.items c.as_slice-curves.result.now
    c.in_ok-reaches.reaches.items c.deref.result.now c.as_slice-curves.ensures.value
    c.deref.ensures.value c.in_ok-reaches.ensures) c.as_slice-curves.ensures.value
    (c.in_ok-pair.ensures.none c.in-None.is)
