use Rattle.std.proofs.Common.{List, Option, subst}
use Rattle.plane.specs.Rule.Plans.{plan}
use Rattle.plane.specs.declared.kinds.Curve.{Curve}
use Rattle.tubes.specs.TubedEdges.{drawn_bays}
use Rattle.tubes.specs.declared.kinds.Tube.{Tube}
use Rattle.level_breaks.specs.LevelLists.{IsFirstBare}
use Rattle.level_breaks.proofs.AnyEdges.{any_meet}
use Rattle.level_breaks.proofs.FirstBreaks.{lesser_is_first, none_is_settled, some_mapped}
use Rattle.level_breaks.proofs.finding.first_break_among.Goals as goal

pub returns-clause-settled : goal.returns-clause-settled
returns-clause-settled c = λ e.
    let d = plan c.args.drawing.now in
    let ts = c.in_ok-tubes.tubes.items in
    let n = c.lesser.ensures.none e in
    let first = subst
    (λ (us : List (Option Tube)). IsFirstBare d.curves us c.first_bare-bare.result)
    c.deref-3.ensures.value
    (subst (λ (cs : List Curve). IsFirstBare cs c.deref-3.result.now c.first_bare-bare.result)
    c.deref-2.ensures.value c.first_bare-bare.ensures) in
    none_is_settled d (λ n. c.args.level) ts c.in_ok-tubes.ensures c.in_ok-pair.pair
    c.first_bare-bare.result c.in_ok-pair.ensures.some c.in_ok-pair.ensures.none first
    (any_meet c.meetings_are_decided.ensures.decided c.meetings_are_decided.ensures.fine)
    (c.own_edges_of_tubes.ensures.meet d (drawn_bays d (λ n. c.args.level)))
    (c.own_edges_of_tubes.ensures.enter d (drawn_bays d (λ n. c.args.level)))
    (c.edges_of_tubed_drawing.ensures.tubes d (λ n. c.args.level)) n.0 n.1

pub returns-clause-breaks : goal.returns-clause-breaks
returns-clause-breaks c =
    let d = plan c.args.drawing.now in
    let ts = c.in_ok-tubes.tubes.items in
    let first = subst
    (λ (us : List (Option Tube)). IsFirstBare d.curves us c.first_bare-bare.result)
    c.deref-3.ensures.value
    (subst (λ (cs : List Curve). IsFirstBare cs c.deref-3.result.now c.first_bare-bare.result)
    c.deref-2.ensures.value c.first_bare-bare.ensures) in
    some_mapped c.lesser.result _ _
    (lesser_is_first d (λ n. c.args.level) ts c.in_ok-tubes.ensures c.in_ok-pair.pair
    c.first_bare-bare.result c.in_ok-pair.ensures.some c.in_ok-pair.ensures.none first)
    c.lesser.ensures.some
