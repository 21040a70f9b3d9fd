use Rattle.std.proofs.Common.{◌^◌, FitsSigned, to_z-of_z, rules, arith, subst}
use Rattle.std.specs.Int.{w128}
use Rattle.plane.specs.Numbers.{IsWithin}
use Rattle.plane.proofs.Algebra.Bounds.{within_fits}
use Rattle.arc_predicates.specs.Circles.{HasSign, half_arc}
use Rattle.arc_predicates.proofs.Sums.{product_within, within_by}
use Rattle.arc_predicates.proofs.PlaceNumbers.{ahead_within, bend_within, circle_x_within}
use Rattle.arc_predicates.proofs.PlaceNumbers.{circle_y_within, far_within, over_within}
use Rattle.arc_predicates.proofs.PlaceNumbers.{part_within, seen_is}
use Rattle.arc_predicates.proofs.placing.side_of.Goals as goal

pub dot-ahead-requires-clause-first : goal.dot-ahead-requires-clause-first
dot-ahead-requires-clause-first c =
    let k = c.args.circle.now in
    let a : IsWithin (2 ^ 80) k.a = within_by (2 ^ 80) k.a _ k.centre_x
    (circle_x_within (half_arc k) k.has) in
    product_within (2 ^ 80) (2 ^ 32) k.a c.args.x (omega arith) (omega arith)
    (omega arith) a c.requires.x

pub dot-ahead-requires-clause-second : goal.dot-ahead-requires-clause-second
dot-ahead-requires-clause-second c =
    let k = c.args.circle.now in
    let b : IsWithin (2 ^ 80) k.b = within_by (2 ^ 80) k.b _ k.centre_y
    (circle_y_within (half_arc k) k.has) in
    product_within (2 ^ 80) (2 ^ 32) k.b c.args.y (omega arith) (omega arith)
    (omega arith) b c.requires.y

pub determinant-over-requires-clause-first : goal.determinant-over-requires-clause-first
determinant-over-requires-clause-first c =
    let k = c.args.circle.now in
    let x = c.ranges.x in
    let y = c.ranges.y in
    let d : IsWithin (2 ^ 53) k.d = within_by (2 ^ 53) k.d _ k.turn
    (bend_within (half_arc k) k.has) in
    let far = far_within c.args.x c.args.y c.dot-far.result c.requires.x c.requires.y
    (simp to_z-of_z at c.dot-far.ensures) in
    product_within (2 ^ 53) (2 ^ 65) k.d c.dot-far.result (omega arith) (omega arith)
    (omega arith) d far

pub determinant-over-requires-clause-second : goal.determinant-over-requires-clause-second
determinant-over-requires-clause-second c =
    let k = c.args.circle.now in
    let x = c.ranges.x in
    let y = c.ranges.y in
    let a : IsWithin (2 ^ 80) k.a = within_by (2 ^ 80) k.a _ k.centre_x
    (circle_x_within (half_arc k) k.has) in
    let b : IsWithin (2 ^ 80) k.b = within_by (2 ^ 80) k.b _ k.centre_y
    (circle_y_within (half_arc k) k.has) in
    let fa : FitsSigned w128 k.a = within_fits (2 ^ 80) k.a (omega arith) a in
    let fb : FitsSigned w128 k.b = within_fits (2 ^ 80) k.b (omega arith) b in
    let ahead = ahead_within k.a k.b c.args.x c.args.y c.dot-ahead.result a b c.requires.x
    c.requires.y (simp to_z-of_z at c.dot-ahead.ensures) in
    product_within (2 ^ 113) (2 ^ 5) c.dot-ahead.result c.args.n (omega arith) (omega arith)
    (omega arith) ahead (part_within c.args.n c.requires.part)

pub side_by-requires-clause-bound : goal.side_by-requires-clause-bound
side_by-requires-clause-bound c =
    let k = c.args.circle.now in
    let x = c.ranges.x in
    let y = c.ranges.y in
    let n = c.ranges.n in
    let d : IsWithin (2 ^ 53) k.d = within_by (2 ^ 53) k.d _ k.turn
    (bend_within (half_arc k) k.has) in
    let a : IsWithin (2 ^ 80) k.a = within_by (2 ^ 80) k.a _ k.centre_x
    (circle_x_within (half_arc k) k.has) in
    let b : IsWithin (2 ^ 80) k.b = within_by (2 ^ 80) k.b _ k.centre_y
    (circle_y_within (half_arc k) k.has) in
    let fd : FitsSigned w128 k.d = within_fits (2 ^ 53) k.d (omega arith) d in
    let fa : FitsSigned w128 k.a = within_fits (2 ^ 80) k.a (omega arith) a in
    let fb : FitsSigned w128 k.b = within_fits (2 ^ 80) k.b (omega arith) b in
    let ff : FitsSigned w128 c.dot-far.result = search rules in
    let fh : FitsSigned w128 c.dot-ahead.result = search rules in
    let fo : FitsSigned w128 c.determinant-over.result = search rules in
    let far = far_within c.args.x c.args.y c.dot-far.result c.requires.x c.requires.y
    (simp to_z-of_z at c.dot-far.ensures) in
    let ahead = ahead_within k.a k.b c.args.x c.args.y c.dot-ahead.result a b c.requires.x
    c.requires.y (simp to_z-of_z at c.dot-ahead.ensures) in
    let over = over_within k.d c.dot-ahead.result c.args.n c.dot-far.result
    c.determinant-over.result d ahead (part_within c.args.n c.requires.part) far
    (simp to_z-of_z at c.determinant-over.ensures) in
    rw (to_z-of_z fo) over

pub returns : goal.returns
returns c =
    let k = c.args.circle.now in
    let x = c.ranges.x in
    let y = c.ranges.y in
    let n = c.ranges.n in
    let d : IsWithin (2 ^ 53) k.d = within_by (2 ^ 53) k.d _ k.turn
    (bend_within (half_arc k) k.has) in
    let a : IsWithin (2 ^ 80) k.a = within_by (2 ^ 80) k.a _ k.centre_x
    (circle_x_within (half_arc k) k.has) in
    let b : IsWithin (2 ^ 80) k.b = within_by (2 ^ 80) k.b _ k.centre_y
    (circle_y_within (half_arc k) k.has) in
    let fd : FitsSigned w128 k.d = within_fits (2 ^ 53) k.d (omega arith) d in
    let fa : FitsSigned w128 k.a = within_fits (2 ^ 80) k.a (omega arith) a in
    let fb : FitsSigned w128 k.b = within_fits (2 ^ 80) k.b (omega arith) b in
    let ff : FitsSigned w128 c.dot-far.result = search rules in
    let fh : FitsSigned w128 c.dot-ahead.result = search rules in
    let fo : FitsSigned w128 c.determinant-over.result = search rules in
    subst (HasSign c.side_by.result)
    (seen_is k.d k.a k.b c.args.x c.args.y c.args.n c.dot-far.result c.dot-ahead.result
    c.determinant-over.result
    (simp to_z-of_z at c.dot-far.ensures) (simp to_z-of_z at c.dot-ahead.ensures)
    (simp to_z-of_z at c.determinant-over.ensures)) (simp to_z-of_z at c.side_by.ensures)
