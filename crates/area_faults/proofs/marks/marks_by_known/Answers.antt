use Rattle.std.proofs.Common.{List, length, subst}
use Rattle.plane.specs.declared.kinds.Curve.{Curve}
use Rattle.area_faults.specs.MeetingMarks.{AreUnmarkedTo}
use Rattle.area_faults.proofs.Unmarked.{all_close}
use Rattle.area_faults.proofs.marks.marks_by_known.Goals as goal

pub with_clashing-requires-clause-close : goal.with_clashing-requires-clause-close
with_clashing-requires-clause-close c =
    let d = c.args.drawing.now in
    let e = c.in_ok-edges.edges in
    all_close d.window.low d.window.high d.curves.items c.deref-2.result.now e.edges.items
    e.numbers.items
    (subst (λ (cs : List Curve). AreUnmarkedTo cs c.deref-2.result.now
    (length cs) e.edges.items e.numbers.items) c.deref.ensures.value c.in_ok-edges.ensures)
    d.window.narrow d.curves_drawn
