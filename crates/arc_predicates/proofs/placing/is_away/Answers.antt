use Rattle.std.proofs.Common.{◌^◌, FitsSigned, to_z-of_z, rules, arith}
use Rattle.std.specs.Int.{w128, w64}
use Rattle.plane.specs.Numbers.{IsWithin}
use Rattle.plane.proofs.Algebra.Bounds.{within_fits}
use Rattle.arc_predicates.specs.Circles.{half_arc, place}
use Rattle.arc_predicates.proofs.Sums.{product_within, within_by}
use Rattle.arc_predicates.proofs.PlaceNumbers.{away_by, bend_within, bow_is, close_above}
use Rattle.arc_predicates.proofs.PlaceNumbers.{close_right, near_much_wider, turned_within}
use Rattle.arc_predicates.proofs.placing.is_away.Goals as goal

pub offset-right-requires-clause-close : goal.offset-right-requires-clause-close
offset-right-requires-clause-close c =
    let s : FitsSigned w64 c.args.circle.now.s.x = search rules in
    rw (to_z-of_z c.ranges.x, to_z-of_z c.ranges.n, to_z-of_z s)
    (close_right (half_arc c.args.circle.now) c.args.x c.args.y c.args.n c.requires.part
    c.requires.close)

pub offset-above-requires-clause-close : goal.offset-above-requires-clause-close
offset-above-requires-clause-close c =
    let s : FitsSigned w64 c.args.circle.now.s.y = search rules in
    rw (to_z-of_z c.ranges.y, to_z-of_z c.ranges.n, to_z-of_z s)
    (close_above (half_arc c.args.circle.now) c.args.x c.args.y c.args.n c.requires.part
    c.requires.close)

pub difference-wide-requires : goal.difference-wide-requires
difference-wide-requires c =
    let k = c.args.circle.now in
    let s : FitsSigned w64 k.s.x = search rules in
    let p : FitsSigned w64 k.m.x = search rules in
    rw (to_z-of_z s, to_z-of_z p) (near_much_wider k.s.x k.m.x k.has.ends.x)

pub difference-tall-requires : goal.difference-tall-requires
difference-tall-requires c =
    let k = c.args.circle.now in
    let s : FitsSigned w64 k.s.y = search rules in
    let p : FitsSigned w64 k.m.y = search rules in
    rw (to_z-of_z s, to_z-of_z p) (near_much_wider k.s.y k.m.y k.has.ends.y)

pub determinant-over-requires-clause-first : goal.determinant-over-requires-clause-first
determinant-over-requires-clause-first c =
    let k = c.args.circle.now in
    let s : FitsSigned w64 k.s.y = search rules in
    let n = c.ranges.n in
    let y = c.ranges.y in
    let b : IsWithin (2 ^ 45) c.offset-above.result = within_by (2 ^ 45) _ _
    (simp to_z-of_z at c.offset-above.ensures)
    (close_above (half_arc k) c.args.x c.args.y c.args.n c.requires.part c.requires.close) in
    product_within (2 ^ 41) (2 ^ 45) c.difference-wide.result c.offset-above.result (omega arith)
    (omega arith) (omega arith) c.difference-wide.ensures.bound b

pub determinant-over-requires-clause-second : goal.determinant-over-requires-clause-second
determinant-over-requires-clause-second c =
    let k = c.args.circle.now in
    let s : FitsSigned w64 k.s.x = search rules in
    let n = c.ranges.n in
    let x = c.ranges.x in
    let b : IsWithin (2 ^ 45) c.offset-right.result = within_by (2 ^ 45) _ _
    (simp to_z-of_z at c.offset-right.ensures)
    (close_right (half_arc k) c.args.x c.args.y c.args.n c.requires.part c.requires.close) in
    product_within (2 ^ 41) (2 ^ 45) c.difference-tall.result c.offset-right.result (omega arith)
    (omega arith) (omega arith) c.difference-tall.ensures.bound b

pub is_at_most_zero-requires-clause-bound : goal.is_at_most_zero-requires-clause-bound
is_at_most_zero-requires-clause-bound c =
    let k = c.args.circle.now in
    let sx : FitsSigned w64 k.s.x = search rules in
    let sy : FitsSigned w64 k.s.y = search rules in
    let n = c.ranges.n in
    let x = c.ranges.x in
    let y = c.ranges.y in
    let bx : IsWithin (2 ^ 45) c.offset-right.result = within_by (2 ^ 45) _ _
    (simp to_z-of_z at c.offset-right.ensures)
    (close_right (half_arc k) c.args.x c.args.y c.args.n c.requires.part c.requires.close) in
    let by : IsWithin (2 ^ 45) c.offset-above.result = within_by (2 ^ 45) _ _
    (simp to_z-of_z at c.offset-above.ensures)
    (close_above (half_arc k) c.args.x c.args.y c.args.n c.requires.part c.requires.close) in
    let fx : FitsSigned w128 c.offset-right.result = search rules in
    let fy : FitsSigned w128 c.offset-above.result = search rules in
    let fw : FitsSigned w128 c.difference-wide.result = search rules in
    let ft : FitsSigned w128 c.difference-tall.result = search rules in
    let fo : FitsSigned w128 c.determinant-over.result = search rules in
    rw (to_z-of_z fo)
    (turned_within c.difference-wide.result c.difference-tall.result c.offset-right.result
    c.offset-above.result c.determinant-over.result c.difference-wide.ensures.bound
    c.difference-tall.ensures.bound bx by (simp to_z-of_z at c.determinant-over.ensures))

pub returns : goal.returns
returns c =
    let k = c.args.circle.now in
    let sx : FitsSigned w64 k.s.x = search rules in
    let sy : FitsSigned w64 k.s.y = search rules in
    let mx : FitsSigned w64 k.m.x = search rules in
    let my : FitsSigned w64 k.m.y = search rules in
    let n = c.ranges.n in
    let x = c.ranges.x in
    let y = c.ranges.y in
    let fd : FitsSigned w128 k.d = within_fits (2 ^ 53) k.d (omega arith)
    (within_by (2 ^ 53) k.d _ k.turn (bend_within (half_arc k) k.has)) in
    let fx : FitsSigned w128 c.offset-right.result = search rules in
    let fy : FitsSigned w128 c.offset-above.result = search rules in
    let fw : FitsSigned w128 c.difference-wide.result = search rules in
    let ft : FitsSigned w128 c.difference-tall.result = search rules in
    let fo : FitsSigned w128 c.determinant-over.result = search rules in
    away_by c.is_at_most_zero.result k.d c.determinant-over.result _
    (simp to_z-of_z at c.is_at_most_zero.ensures)
    (bow_is (half_arc k) (place c.args.x c.args.y c.args.n) k.d c.difference-wide.result
    c.difference-tall.result c.offset-right.result c.offset-above.result
    c.determinant-over.result k.turn
    (simp to_z-of_z at c.difference-wide.ensures.value)
    (simp to_z-of_z at c.difference-tall.ensures.value)
    (simp to_z-of_z at c.offset-right.ensures) (simp to_z-of_z at c.offset-above.ensures)
    (simp to_z-of_z at c.determinant-over.ensures))
