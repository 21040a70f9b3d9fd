use Rattle.std.proofs.Common.{ℕ, ap, ◌∙◌, refl, subst, arith}
use Rattle.std.proofs.lemmas.List.{length-map}
use Rattle.plane.specs.Rule.Plans.{plan}
use Rattle.surface_rings.specs.Surfaces.{IsRingAnswer}
use Rattle.tubes.specs.DrawnEdges.{edges_of, straight_edge}
use Rattle.reports.specs.declared.lines.SurfaceAnswer.TheVariants.{Meeting, Odd}
use Rattle.delivery.specs.SurfaceAnswers.{outline}
use Rattle.delivery.specs.Surfaces.{line_at, meeting, odd, parts}
use Rattle.delivery.proofs.surfaces.ring_answer.Goals as goal

pub curve_line-requires : goal.curve_line-requires
curve_line-requires c =
    let d = c.args.drawing.now in
    let h = subst (IsRingAnswer d.window (edges_of (plan d))) c.in-Meeting.is
    (c.requires d.window) in
    let n = length-map d.curves.items straight_edge in
    let l = h.less in
    let w = h.within in
    omega (arith, n, l, w)

pub curve_line-requires-in-Meeting : goal.curve_line-requires-in-Meeting
curve_line-requires-in-Meeting c =
    let d = c.args.drawing.now in
    let h = subst (IsRingAnswer d.window (edges_of (plan d))) c.in-Meeting.is
    (c.requires d.window) in
    let n = length-map d.curves.items straight_edge in
    let w = h.within in
    omega (arith, n, w)

pub curve_line-requires-in-Odd : goal.curve_line-requires-in-Odd
curve_line-requires-in-Odd c =
    let d = c.args.drawing.now in
    let h = subst (IsRingAnswer d.window (edges_of (plan d))) c.in-Odd.is
    (c.requires d.window) in
    let n = length-map d.curves.items straight_edge in
    let w = h.within in
    omega (arith, n, w)

pub returns-in-Holds : goal.returns-in-Holds
returns-in-Holds c = λ u.
    subst (IsRingAnswer u (edges_of (plan c.args.drawing.now))) c.in-Holds.is (c.requires u)

pub returns-in-Meeting : goal.returns-in-Meeting
returns-in-Meeting c =
    let d = c.args.drawing.now in
    let b = outline c.args.line d.curves.items in
    let h = subst (IsRingAnswer d.window (edges_of (plan d))) c.in-Meeting.is
    (c.requires d.window) in
    meeting c.in-Meeting.first c.in-Meeting.second h
    (ap (λ (n : ℕ). Meeting n c.curve_line-in-Meeting.result) c.curve_line.ensures
    ∙ ap (Meeting (line_at b c.in-Meeting.first)) c.curve_line-in-Meeting.ensures)

pub returns-in-Odd : goal.returns-in-Odd
returns-in-Odd c =
    let d = c.args.drawing.now in
    let h = subst (IsRingAnswer d.window (edges_of (plan d))) c.in-Odd.is
    (c.requires d.window) in
    odd c.in-Odd.edge h (ap Odd c.curve_line-in-Odd.ensures)

pub returns-in-Parts : goal.returns-in-Parts
returns-in-Parts c =
    parts (λ u. subst (IsRingAnswer u (edges_of (plan c.args.drawing.now))) c.in-Parts.is
    (c.requires u)) refl
