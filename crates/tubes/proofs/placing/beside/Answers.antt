use Rattle.std.proofs.Common.{◌^◌, FitsSigned, rules, subst, sym, to_z-of_z}
use Rattle.std.specs.Int.{w64}
use Rattle.plane.specs.Numbers.{IsWithin}
use Rattle.arc_predicates.specs.Circles.{half_arc}
use Rattle.tubes.proofs.SpanNumbers.{beside_is, whole_within}
use Rattle.tubes.proofs.placing.beside.Goals as goal

pub moved-requires-clause-length : goal.moved-requires-clause-length
moved-requires-clause-length c =
    let s = c.args.span.now in
    let l : FitsSigned w64 s.length = search rules in
    rw (to_z-of_z l) (subst (IsWithin (2 ^ 29)) (sym s.distance) (whole_within s.p s.q s.near))

pub moved-requires-2-clause-length : goal.moved-requires-2-clause-length
moved-requires-2-clause-length c =
    let s = c.args.span.now in
    let l : FitsSigned w64 s.length = search rules in
    rw (to_z-of_z l) (subst (IsWithin (2 ^ 29)) (sym s.distance) (whole_within s.p s.q s.near))

pub returns : goal.returns
returns c =
    let s = c.args.span.now in
    let n = c.ranges.n in
    let l : FitsSigned w64 s.length = search rules in
    let px : FitsSigned w64 s.p.x = search rules in
    let py : FitsSigned w64 s.p.y = search rules in
    let qx : FitsSigned w64 s.q.x = search rules in
    let qy : FitsSigned w64 s.q.y = search rules in
    let r : FitsSigned w64 c.turned-right.result = search rules in
    let t : FitsSigned w64 c.turned-above.result = search rules in
    let x : FitsSigned w64 c.moved.result = search rules in
    let y : FitsSigned w64 c.moved-2.result = search rules in
    rw (to_z-of_z x, to_z-of_z y)
    (beside_is (half_arc c.args.circle.now) s.p s.q c.args.n s.length c.turned-right.result
    c.turned-above.result c.moved.result c.moved-2.result s.distance
    (simp to_z-of_z at c.turned-right.ensures.value)
    (simp to_z-of_z at c.turned-above.ensures.value) (simp to_z-of_z at c.moved.ensures)
    (simp to_z-of_z at c.moved-2.ensures))
