use Rattle.std.proofs.Common.{◌≡◌, ◌^◌, ◌-ℤ◌, FitsSigned, to_z-of_z, rules, arith}
use Rattle.std.specs.Int.{IsIsqrt, w128, w64}
use Rattle.plane.specs.Numbers.{IsWithin}
use Rattle.plane.proofs.Algebra.Bounds.{within_fits}
use Rattle.arc_predicates.specs.Circles.{half_arc}
use Rattle.arc_predicates.proofs.PlaceNumbers.{bend_within, circle_x_within, circle_y_within}
use Rattle.arc_predicates.proofs.Sums.{product_within, within_by}
use Rattle.forks.proofs.WayNumbers.{across_is, det_within, dot_within, square_is, sum_of_squares}
use Rattle.forks.proofs.WayNumbers.{toward_is}
use Rattle.forks.proofs.ways.way_to.Goals as goal

pub dot-square-requires-clause-first : goal.dot-square-requires-clause-first
dot-square-requires-clause-first c =
    product_within (2 ^ 40) (2 ^ 40) c.difference-x.result c.difference-x.result (omega arith)
    (omega arith) (omega arith) c.difference-x.ensures.bound c.difference-x.ensures.bound

pub dot-square-requires-clause-second : goal.dot-square-requires-clause-second
dot-square-requires-clause-second c =
    product_within (2 ^ 40) (2 ^ 40) c.difference-y.result c.difference-y.result (omega arith)
    (omega arith) (omega arith) c.difference-y.ensures.bound c.difference-y.ensures.bound

pub isqrt-root-requires : goal.isqrt-root-requires
isqrt-root-requires c =
    let fx : FitsSigned w128 c.difference-x.result = search rules in
    let fy : FitsSigned w128 c.difference-y.result = search rules in
    let fs : FitsSigned w128 c.dot-square.result = search rules in
    rw (to_z-of_z fs)
    (sum_of_squares c.difference-x.result c.difference-y.result c.dot-square.result
    (simp to_z-of_z at c.dot-square.ensures))

pub dot-toward-requires-clause-first : goal.dot-toward-requires-clause-first
dot-toward-requires-clause-first c =
    let k = c.args.circle.now in
    let a : IsWithin (2 ^ 80) k.a = within_by (2 ^ 80) k.a _ k.centre_x
    (circle_x_within (half_arc k) k.has) in
    product_within (2 ^ 80) (2 ^ 40) k.a c.difference-x.result (omega arith) (omega arith)
    (omega arith) a c.difference-x.ensures.bound

pub dot-toward-requires-clause-second : goal.dot-toward-requires-clause-second
dot-toward-requires-clause-second c =
    let k = c.args.circle.now in
    let b : IsWithin (2 ^ 80) k.b = within_by (2 ^ 80) k.b _ k.centre_y
    (circle_y_within (half_arc k) k.has) in
    product_within (2 ^ 80) (2 ^ 40) k.b c.difference-y.result (omega arith) (omega arith)
    (omega arith) b c.difference-y.ensures.bound

pub determinant-across-requires-clause-first : goal.determinant-across-requires-clause-first
determinant-across-requires-clause-first c =
    let k = c.args.circle.now in
    let b : IsWithin (2 ^ 80) k.b = within_by (2 ^ 80) k.b _ k.centre_y
    (circle_y_within (half_arc k) k.has) in
    product_within (2 ^ 40) (2 ^ 80) c.difference-x.result k.b (omega arith) (omega arith)
    (omega arith) c.difference-x.ensures.bound b

pub determinant-across-requires-clause-second : goal.determinant-across-requires-clause-second
determinant-across-requires-clause-second c =
    let k = c.args.circle.now in
    let a : IsWithin (2 ^ 80) k.a = within_by (2 ^ 80) k.a _ k.centre_x
    (circle_x_within (half_arc k) k.has) in
    product_within (2 ^ 40) (2 ^ 80) c.difference-y.result k.a (omega arith) (omega arith)
    (omega arith) c.difference-y.ensures.bound a

pub signed-requires : goal.signed-requires
signed-requires c =
    let k = c.args.circle.now in
    let a : IsWithin (2 ^ 80) k.a = within_by (2 ^ 80) k.a _ k.centre_x
    (circle_x_within (half_arc k) k.has) in
    let b : IsWithin (2 ^ 80) k.b = within_by (2 ^ 80) k.b _ k.centre_y
    (circle_y_within (half_arc k) k.has) in
    let fa : FitsSigned w128 k.a = within_fits (2 ^ 80) k.a (omega arith) a in
    let fb : FitsSigned w128 k.b = within_fits (2 ^ 80) k.b (omega arith) b in
    let fx : FitsSigned w128 c.difference-x.result = search rules in
    let fy : FitsSigned w128 c.difference-y.result = search rules in
    let ft : FitsSigned w128 c.dot-toward.result = search rules in
    rw (to_z-of_z ft)
    (dot_within k.a k.b c.difference-x.result c.difference-y.result c.dot-toward.result a b
    c.difference-x.ensures.bound c.difference-y.ensures.bound
    (simp to_z-of_z at c.dot-toward.ensures))

pub signed-requires-2 : goal.signed-requires-2
signed-requires-2 c =
    let k = c.args.circle.now in
    let a : IsWithin (2 ^ 80) k.a = within_by (2 ^ 80) k.a _ k.centre_x
    (circle_x_within (half_arc k) k.has) in
    let b : IsWithin (2 ^ 80) k.b = within_by (2 ^ 80) k.b _ k.centre_y
    (circle_y_within (half_arc k) k.has) in
    let fa : FitsSigned w128 k.a = within_fits (2 ^ 80) k.a (omega arith) a in
    let fb : FitsSigned w128 k.b = within_fits (2 ^ 80) k.b (omega arith) b in
    let fx : FitsSigned w128 c.difference-x.result = search rules in
    let fy : FitsSigned w128 c.difference-y.result = search rules in
    let ft : FitsSigned w128 c.determinant-across.result = search rules in
    rw (to_z-of_z ft)
    (det_within c.difference-x.result c.difference-y.result k.a k.b c.determinant-across.result
    c.difference-x.ensures.bound c.difference-y.ensures.bound a b
    (simp to_z-of_z at c.determinant-across.ensures))

pub returns : goal.returns
returns c =
    let k = c.args.circle.now in
    let h = half_arc k in
    let a : IsWithin (2 ^ 80) k.a = within_by (2 ^ 80) k.a _ k.centre_x (circle_x_within h k.has) in
    let b : IsWithin (2 ^ 80) k.b = within_by (2 ^ 80) k.b _ k.centre_y (circle_y_within h k.has) in
    let fd : FitsSigned w128 k.d = within_fits (2 ^ 53) k.d (omega arith)
    (within_by (2 ^ 53) k.d _ k.turn (bend_within h k.has)) in
    let fa : FitsSigned w128 k.a = within_fits (2 ^ 80) k.a (omega arith) a in
    let fb : FitsSigned w128 k.b = within_fits (2 ^ 80) k.b (omega arith) b in
    let sx : FitsSigned w64 k.s.x = search rules in
    let sy : FitsSigned w64 k.s.y = search rules in
    let qx : FitsSigned w64 c.args.q.x = search rules in
    let qy : FitsSigned w64 c.args.q.y = search rules in
    let fx : FitsSigned w128 c.difference-x.result = search rules in
    let fy : FitsSigned w128 c.difference-y.result = search rules in
    let fs : FitsSigned w128 c.dot-square.result = search rules in
    let fr : FitsSigned w128 c.isqrt-root.result = search rules in
    let ft : FitsSigned w128 c.dot-toward.result = search rules in
    let fc : FitsSigned w128 c.determinant-across.result = search rules in
    let f1 : FitsSigned w128 c.signed.result = search rules in
    let f2 : FitsSigned w128 c.signed-2.result = search rules in
    let x : c.difference-x.result ≡ c.args.q.x
    -ℤ k.s.x = simp to_z-of_z at c.difference-x.ensures.value in
    let y : c.difference-y.result ≡ c.args.q.y
    -ℤ k.s.y = simp to_z-of_z at c.difference-y.ensures.value in
    let root : IsIsqrt c.dot-square.result c.isqrt-root.result = simp to_z-of_z at
    c.isqrt-root.ensures in
    rw (to_z-of_z fx, to_z-of_z fy, to_z-of_z fs, to_z-of_z fr, to_z-of_z f1, to_z-of_z f2)
    (record {
      x = x;
      y = y;
      x_within = c.difference-x.ensures.bound;
      y_within = c.difference-y.ensures.bound;
      square = square_is k.s c.args.q c.difference-x.result c.difference-y.result
          c.dot-square.result x y (simp to_z-of_z at c.dot-square.ensures);
      root = root;
      toward = toward_is h c.args.q k.d k.a k.b c.difference-x.result c.difference-y.result
          c.dot-toward.result c.signed.result k.turn k.centre_x k.centre_y x y
          (simp to_z-of_z at c.dot-toward.ensures) (simp to_z-of_z at c.signed.ensures.value);
      toward_within = c.signed.ensures.bound;
      across = across_is h c.args.q k.d k.a k.b c.difference-x.result c.difference-y.result
          c.determinant-across.result c.signed-2.result k.turn k.centre_x k.centre_y x y
          (simp to_z-of_z at c.determinant-across.ensures)
          (simp to_z-of_z at c.signed-2.ensures.value);
      across_within = c.signed-2.ensures.bound;
    })
