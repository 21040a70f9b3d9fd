use Rattle.std.proofs.Common.{◌≡◌, FitsSigned, to_z-of_z, rules, subst, sym, pos, ◌≤ℤ◌}
use Rattle.std.specs.Int.{w128, w64}
use Rattle.plane.specs.Rule.BadPairs.{sixteenth}
use Rattle.plane.specs.Rule.HalfArcs.{bow}
use Rattle.plane.specs.Rule.Places.{Vector}
use Rattle.arc_predicates.specs.Circles.{IsCloseTo, IsSideOf, half_arc, place}
use Rattle.arc_predicates.proofs.PlaceNumbers.{sixteenth_close}
use Rattle.arc_predicates.proofs.TestParts.{refuted}
use Rattle.arc_predicates.proofs.TrialSides.{at_sixteenth, side_with}
use Rattle.arc_predicates.proofs.crossing.side_away.Goals as goal

pub is_away-requires-clause-close : goal.is_away-requires-clause-close
is_away-requires-clause-close c =
    let s = c.args.straight.now in
    let h = half_arc c.args.circle.now in
    let fx : FitsSigned w64 s.from.x = search rules in
    let fy : FitsSigned w64 s.from.y = search rules in
    let tx : FitsSigned w64 s.to.x = search rules in
    let ty : FitsSigned w64 s.to.y = search rules in
    let x : FitsSigned w128 c.mean-x.result = search rules in
    let y : FitsSigned w128 c.mean-y.result = search rules in
    let n = c.ranges.number in
    let e : place c.mean-x.result c.mean-y.result (pos 16)
    ≡ sixteenth s c.args.number =
    at_sixteenth s c.args.number _ _ (simp to_z-of_z at c.mean-x.ensures)
    (simp to_z-of_z at c.mean-y.ensures) in
    rw (to_z-of_z x, to_z-of_z y)
    (subst (IsCloseTo h) (sym e)
    (sixteenth_close h s c.args.number c.requires.number c.requires.from c.requires.to))

pub side-requires-clause-close : goal.side-requires-clause-close
side-requires-clause-close c =
    let s = c.args.straight.now in
    let h = half_arc c.args.circle.now in
    let fx : FitsSigned w64 s.from.x = search rules in
    let fy : FitsSigned w64 s.from.y = search rules in
    let tx : FitsSigned w64 s.to.x = search rules in
    let ty : FitsSigned w64 s.to.y = search rules in
    let x : FitsSigned w128 c.mean-x.result = search rules in
    let y : FitsSigned w128 c.mean-y.result = search rules in
    let n = c.ranges.number in
    let e : place c.mean-x.result c.mean-y.result (pos 16)
    ≡ sixteenth s c.args.number =
    at_sixteenth s c.args.number _ _ (simp to_z-of_z at c.mean-x.ensures)
    (simp to_z-of_z at c.mean-y.ensures) in
    rw (to_z-of_z x, to_z-of_z y)
    (subst (IsCloseTo h) (sym e)
    (sixteenth_close h s c.args.number c.requires.number c.requires.from c.requires.to))

pub returns-then-is_away : goal.returns-then-is_away
returns-then-is_away c =
    let s = c.args.straight.now in
    let h = half_arc c.args.circle.now in
    let fx : FitsSigned w64 s.from.x = search rules in
    let fy : FitsSigned w64 s.from.y = search rules in
    let tx : FitsSigned w64 s.to.x = search rules in
    let ty : FitsSigned w64 s.to.y = search rules in
    let x : FitsSigned w128 c.mean-x.result = search rules in
    let y : FitsSigned w128 c.mean-y.result = search rules in
    let n = c.ranges.number in
    let e : place c.mean-x.result c.mean-y.result (pos 16)
    ≡ sixteenth s c.args.number =
    at_sixteenth s c.args.number _ _ (simp to_z-of_z at c.mean-x.ensures)
    (simp to_z-of_z at c.mean-y.ensures) in
    side_with c.side.result h (sixteenth s c.args.number)
    (subst (IsSideOf c.side.result h) e (simp to_z-of_z at c.side.ensures))
    (subst (λ (z : Vector). pos 0 ≤ℤ bow h z) e
    ((simp to_z-of_z at c.is_away.ensures).0 c.if-is_away.true))

pub returns-else-is_away : goal.returns-else-is_away
returns-else-is_away c =
    let s = c.args.straight.now in
    let h = half_arc c.args.circle.now in
    let fx : FitsSigned w64 s.from.x = search rules in
    let fy : FitsSigned w64 s.from.y = search rules in
    let tx : FitsSigned w64 s.to.x = search rules in
    let ty : FitsSigned w64 s.to.y = search rules in
    let x : FitsSigned w128 c.mean-x.result = search rules in
    let y : FitsSigned w128 c.mean-y.result = search rules in
    let n = c.ranges.number in
    let e : place c.mean-x.result c.mean-y.result (pos 16)
    ≡ sixteenth s c.args.number =
    at_sixteenth s c.args.number _ _ (simp to_z-of_z at c.mean-x.ensures)
    (simp to_z-of_z at c.mean-y.ensures) in
    λ k a. refuted _ c.is_away.result (simp to_z-of_z at c.is_away.ensures) c.if-is_away.false
    (subst (λ (z : Vector). pos 0 ≤ℤ bow h z) (sym e) a)
