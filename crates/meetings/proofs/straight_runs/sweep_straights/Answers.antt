use Rattle.std.proofs.Common.{List, [], length, sym, subst}
use Rattle.plane.specs.Rule.Plans.{plan}
use Rattle.plane.specs.Runs.Moves.{steps_from}
use Rattle.plane.specs.Runs.Steps.{Run}
use Rattle.plane.specs.declared.kinds.Edge.{Edge}
use Rattle.straight_predicates.specs.EdgeLists.{edge_of}
use Rattle.meetings.specs.StraightEdges.{AreStraightsTo}
use Rattle.meetings.proofs.StraightLists.{all_close, none_is_bad, pair_is_bad}
use Rattle.meetings.proofs.straight_runs.sweep_straights.Goals as goal

pub sweep-requires-clause-close : goal.sweep-requires-clause-close
sweep-requires-clause-close c =
    let d = c.args.drawing.now in
    let s = c.in_ok-straights.straights in
    all_close d.window.low d.window.high d.curves.items c.deref.result.now s.numbers.items
    d.window.narrow d.curves_drawn
    (subst (λ es. AreStraightsTo d.curves.items (length d.curves.items) es s.numbers.items)
    (sym c.deref.ensures.value) c.in_ok-straights.ensures)

pub returns-in-Ok : goal.returns-in-Ok
returns-in-Ok c =
    let d = c.args.drawing.now in
    let s = c.in_ok-straights.straights in
    record {
      straights = c.in_ok-straights.ensures;
      run = subst (λ (es : List Edge). Run (length es) (edge_of es)
          (steps_from [] c.in-Ok.swept.events)) c.deref.ensures.value c.in-Ok.ensures.run;
      fit = c.in-Ok.ensures.fit;
      clear = none_is_bad (plan d) c.deref.result.now s.numbers.items
          (subst (λ es. AreStraightsTo d.curves.items (length d.curves.items) es s.numbers.items)
          (sym c.deref.ensures.value) c.in_ok-straights.ensures) c.in-Ok.ensures.clear;
    }

pub returns-in-Err-Bad : goal.returns-in-Err-Bad
returns-in-Err-Bad c =
    let s = c.in_ok-straights.straights in
    let (a, b, bad, e, f) = c.in_order.ensures.bad in
    pair_is_bad (plan c.args.drawing.now) s.edges.items s.numbers.items c.in_ok-straights.ensures
    c.in_order.result.first c.in_order.result.second a b bad e f c.in_order.ensures.order
