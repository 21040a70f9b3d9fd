use Rattle.std.proofs.Common.{List, length, subst, sym}
use Rattle.plane.specs.Rule.Plans.{plan}
use Rattle.plane.specs.declared.kinds.Curve.{Curve}
use Rattle.plane.specs.declared.kinds.Edge.{Edge}
use Rattle.area_faults.specs.MeetingMarks.{AreUnmarkedTo}
use Rattle.area_faults.proofs.Unmarked.{all_close, marks_are_enough}
use Rattle.area_faults.proofs.marks.next_marks.Goals as goal

pub sweep-requires-clause-close : goal.sweep-requires-clause-close
sweep-requires-clause-close c =
    let d = c.args.drawing.now in
    let e = c.in_ok-edges.edges in
    all_close d.window.low d.window.high d.curves.items c.args.marks.now c.deref-2.result.now
    e.numbers.items
    (subst (λ (es : List Edge). AreUnmarkedTo d.curves.items c.args.marks.now
    (length d.curves.items) es e.numbers.items) (sym c.deref-2.ensures.value)
    (subst (λ (cs : List Curve). AreUnmarkedTo cs c.args.marks.now
    (length cs) e.edges.items e.numbers.items) c.deref.ensures.value c.in_ok-edges.ensures))
    d.window.narrow d.curves_drawn

pub with_clashing-requires-clause-close : goal.with_clashing-requires-clause-close
with_clashing-requires-clause-close c =
    let d = c.args.drawing.now in
    let e = c.in_ok-edges.edges in
    all_close d.window.low d.window.high d.curves.items c.args.marks.now e.edges.items
    e.numbers.items
    (subst (λ (cs : List Curve). AreUnmarkedTo cs c.args.marks.now
    (length cs) e.edges.items e.numbers.items) c.deref.ensures.value c.in_ok-edges.ensures)
    d.window.narrow d.curves_drawn

pub returns-in-Ok-clause-none : goal.returns-in-Ok-clause-none
returns-in-Ok-clause-none c = λ none.
    let d = c.args.drawing.now in
    let e = c.in_ok-edges.edges in
    marks_are_enough (plan d) c.args.marks.now c.deref-2.result.now e.numbers.items c.requires
    (subst (λ (es : List Edge). AreUnmarkedTo d.curves.items c.args.marks.now
    (length d.curves.items) es e.numbers.items) (sym c.deref-2.ensures.value)
    (subst (λ (cs : List Curve). AreUnmarkedTo cs c.args.marks.now
    (length cs) e.edges.items e.numbers.items) c.deref.ensures.value c.in_ok-edges.ensures))
    c.in-Ok.ensures.clear
