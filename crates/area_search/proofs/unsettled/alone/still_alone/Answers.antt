use Rattle.std.proofs.Common.{All, List, subst, ap, ◌∙◌, map}
use Rattle.plane.specs.Rule.Plans.{plan}
use Rattle.area_search.specs.Unsettled.Alone.{IsSeen, is_alone}
use Rattle.area_search.specs.declared.unsettled.standing.SearchState.{SearchState}
use Rattle.area_search.proofs.UnsettledLemmas.AloneCurves.{alone_in_the_end}
use Rattle.area_search.proofs.unsettled.alone.still_alone.Goals as goal

pub returns-then-are_seen : goal.returns-then-are_seen
returns-then-are_seen c =
    alone_in_the_end (plan c.args.drawing.now) c.loop.standings.items
    c.in_ok-alone_marks.field-0.items c.loop.invariant
    (subst (All IsSeen) c.deref.ensures.value (c.are_seen.ensures c.if-are_seen.true))
    (c.in_ok-alone_marks.ensures
    ∙ ap (λ (ss : List SearchState). map is_alone ss) c.deref-then-are_seen.ensures.value)
