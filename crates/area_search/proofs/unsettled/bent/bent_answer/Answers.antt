use Rattle.std.proofs.Common.{◌≡◌, List, ℕ, length, ap, arith, refl, subst, sym, ◌∙◌}
use Rattle.plane.specs.Rule.Plans.{plan}
use Rattle.area_search.specs.Grounds.{NamesCurveOf, named}
use Rattle.area_search.specs.Regions.{IsSettledFound}
use Rattle.area_search.proofs.Grounds.{BentLaws, names_origin, none_bent, unsettled_bent}
use Rattle.area_search.proofs.Regions.{bent_found, window_stays}
use Rattle.area_search.proofs.unsettled.bent.bent_answer.Goals as goal

pub returns-then-len : goal.returns-then-len
returns-then-len c =
    let d = plan c.args.drawing.now in
    let g = plan c.in_ok-copy.copy.drawing in
    let same : length g.curves ≡ length d.curves =
    omega (arith, c.if-len.true, c.len.ensures, c.len-2.ensures) in
    none_bent c.nothing_bent.ensures c.args.drawing.now.tolerance d g _ c.requires.unsettled
    c.in_ok-copy.ensures.bent same

pub settled_answer-requires-clause-few : goal.settled_answer-requires-clause-few
settled_answer-requires-clause-few c =
    c.bent_has_few_edges.ensures c.args.drawing.now.tolerance (plan c.args.drawing.now)
    (plan c.in_ok-copy.copy.drawing) _ c.in_ok-copy.ensures.bent c.requires.few

pub settled_answer-requires-clause-near : goal.settled_answer-requires-clause-near
settled_answer-requires-clause-near c =
    window_stays (plan c.args.drawing.now) (plan c.in_ok-copy.copy.drawing) c.args.places.now
    c.in_ok-copy.ensures.bent.window c.requires.near

pub named_answer-answer-requires : goal.named_answer-answer-requires
named_answer-answer-requires c =
    let b = c.in-Some.found.answer in
    let g = plan c.in_ok-copy.copy.drawing in
    let h = subst (IsSettledFound g c.args.places.now) c.in-Some.is c.in_ok-found.ensures in
    subst (λ (os : List ℕ). NamesCurveOf (length os) b) (sym c.deref.ensures.value)
    (names_origin c.bent_curves.ensures.sizes c.args.drawing.now.tolerance
    (plan c.args.drawing.now) g _ b c.in_ok-copy.ensures.bent h.answer.answer)

pub returns-in-Some : goal.returns-in-Some
returns-in-Some c =
    let laws : BentLaws = record {
      points = c.bent_curves.ensures.points;
      there = c.bent_curves.ensures.there;
      kind_of = c.bent_curves.ensures.kind;
      arcs = c.half_arcs_stay.ensures;
    } in
    let f = c.in-Some.found in
    let g = plan c.in_ok-copy.copy.drawing in
    let h = subst (IsSettledFound g c.args.places.now) c.in-Some.is c.in_ok-found.ensures in
    bent_found laws c.args.drawing.now.tolerance (plan c.args.drawing.now) g _ c.args.places.now f
    c.requires.clear c.requires.unsettled c.in_ok-copy.ensures.bent h _
    (c.named_answer-answer.ensures ∙ ap (λ (os : List ℕ). named os f.answer) c.deref.ensures.value)
    refl

pub returns : goal.returns
returns c =
    let g = plan c.in_ok-copy.copy.drawing in
    unsettled_bent c.args.drawing.now.tolerance (plan c.args.drawing.now) g _
    c.in_ok-copy.ensures.bent
    (subst (IsSettledFound g c.args.places.now) c.in-None.is c.in_ok-found.ensures)
