use Rattle.std.proofs.Common.{rules, refl, inl, inr, IsTrue, false, arith, w32, ℕ, ◌≡◌, ◌↔◌, ◌⊎◌}
use Rattle.std.proofs.Common.{◌+◌, ◌-◌, ◌*◌, subst}
use Rattle.std.proofs.Math.Facts.{Fits-of_lt}
use Rattle.certificate_checker.specs.Cases.{judged}
use Rattle.plane.specs.Faces.Halves.{Half, half_of}
use Rattle.certificate_checker.specs.InCells.{IsCellOf}
use Rattle.certificate_checker.specs.Marked.{IsMarked}
use Rattle.certificate_checker.proofs.InCellLemmas.{cell_marked}
use Rattle.certificate_checker.proofs.ListParts.{unfit}
use Rattle.certificate_checker.proofs.points.place_point.Goals as goal

pub returns-in-Some-clause-marks : goal.returns-in-Some-clause-marks
returns-in-Some-clause-marks c =
    cell_marked (judged c.args.case.now) c.requires.fit.table c.requires.fit.counts c.args.event
    c.requires.event c.args.spot.number c.requires.spot.strip c.args.live.now.edges c.requires.live
    c.in-Some.i c.args.marks.now c.mark.new.marks c.mark-in-Some.new.marks
    (subst (IsCellOf (judged c.args.case.now) c.args.spot.number c.args.live.now.edges) c.in-Some.is
    c.cell_of.ensures)
    (subst (λ (e : ℕ). (h : Half) → IsMarked c.mark.new.marks h
    ↔ (IsMarked c.args.marks.now h ⊎ (h ≡ half_of (2 * e + 1))))
    (c.get.ensures 0) c.mark.ensures)
    (subst (λ (e : ℕ). (h : Half) → IsMarked c.mark-in-Some.new.marks h
    ↔ (IsMarked c.mark.new.marks h ⊎ (h ≡ half_of (2 * e))))
    (c.get-in-Some.ensures 0) c.mark-in-Some.ensures)

pub returns-in-Some-clause-bad : goal.returns-in-Some-clause-bad
returns-in-Some-clause-bad c =
    let x = subst (IsCellOf (judged c.args.case.now) c.args.spot.number c.args.live.now.edges)
    c.in-Some.is c.cell_of.ensures in
    inl (inl x.0, refl)

pub returns-then-not-is_in_own_tube-clause-bad : goal.returns-then-not-is_in_own_tube-clause-bad
returns-then-not-is_in_own_tube-clause-bad c =
    let n : c.is_in_own_tube.result ≡ false = search rules in
    let x = subst (IsCellOf (judged c.args.case.now) c.args.spot.number c.args.live.now.edges)
    c.in-None.is c.cell_of.ensures in
    inr (
      (λ p. elim p [
        | inl q ↦ x q
        | inr q ↦ unfit c.is_in_own_tube.result c.is_in_own_tube.ensures n q
      ]),
      c.min.ensures,
    )

pub returns-else-not-is_in_own_tube-clause-bad : goal.returns-else-not-is_in_own_tube-clause-bad
returns-else-not-is_in_own_tube-clause-bad c =
    let t : IsTrue c.is_in_own_tube.result = search rules in
    inl (inr (c.is_in_own_tube.ensures.0 t), refl)

pub mark-requires : goal.mark-requires
mark-requires c =
    let x = subst (IsCellOf (judged c.args.case.now) c.args.spot.number c.args.live.now.edges)
    c.in-Some.is c.cell_of.ensures in
    let p = x.2 in
    let q = x.3 in
    let k = c.requires.known (c.in-Some.i - 1) (omega (arith, p, q)) in
    let g = c.get.ensures 0 in
    let s = c.requires.size in
    let n = c.requires.fit.counts.notes in
    omega (arith, k, g, s, n)

pub overflow_mul-get : goal.overflow_mul-get
overflow_mul-get c =
    let x = subst (IsCellOf (judged c.args.case.now) c.args.spot.number c.args.live.now.edges)
    c.in-Some.is c.cell_of.ensures in
    let p = x.2 in
    let q = x.3 in
    let k = c.requires.known (c.in-Some.i - 1) (omega (arith, p, q)) in
    let g = c.get.ensures 0 in
    let f = c.requires.fit.few_edges in
    Fits-of_lt {w = w32} (omega (arith, k, g, f))

pub overflow_add-get : goal.overflow_add-get
overflow_add-get c =
    let x = subst (IsCellOf (judged c.args.case.now) c.args.spot.number c.args.live.now.edges)
    c.in-Some.is c.cell_of.ensures in
    let p = x.2 in
    let q = x.3 in
    let k = c.requires.known (c.in-Some.i - 1) (omega (arith, p, q)) in
    let g = c.get.ensures 0 in
    let f = c.requires.fit.few_edges in
    Fits-of_lt {w = w32} (omega (arith, k, g, f))
