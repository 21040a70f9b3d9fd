use Rattle.std.proofs.Common.{◌≡◌, ◌^◌, ◌-ℤ◌, not, FitsSigned, to_z-of_z, rules, arith}
use Rattle.std.specs.Int.{w128, w64}
use Rattle.plane.specs.Forms.Bends.{aside_x, aside_y}
use Rattle.plane.proofs.Algebra.Bounds.{within_fits}
use Rattle.arc_predicates.specs.Circles.{half_arc}
use Rattle.forks.specs.Zones.{is_left}
use Rattle.forks.proofs.Forking.{root_is}
use Rattle.forks.proofs.WayNumbers.{aside_x_is, aside_y_is, left_is, rounded_as}
use Rattle.forks.proofs.ways.bend_at.Goals as goal

pub moved-requires-clause-aside : goal.moved-requires-clause-aside
moved-requires-clause-aside c =
    let b = c.aside-aside_x.ensures.first_within in
    let f : FitsSigned w128 c.aside-aside_x.result.0 = within_fits (2 ^ 40) _ (omega arith) b in
    rw (to_z-of_z f) b

pub moved-requires-2-clause-aside : goal.moved-requires-2-clause-aside
moved-requires-2-clause-aside c =
    let b = c.aside-aside_x.ensures.second_within in
    let f : FitsSigned w128 c.aside-aside_x.result.1 = within_fits (2 ^ 40) _ (omega arith) b in
    rw (to_z-of_z f) b

pub returns : goal.returns
returns c =
    let k = c.args.circle.now in
    let w = c.args.way.now in
    let h = half_arc k in
    let i = c.requires.way in
    let t = c.ranges.tolerance in
    let sx : FitsSigned w64 k.s.x = search rules in
    let sy : FitsSigned w64 k.s.y = search rules in
    let fx : FitsSigned w128 w.x = within_fits (2 ^ 40) _ (omega arith) i.x_within in
    let fy : FitsSigned w128 w.y = within_fits (2 ^ 40) _ (omega arith) i.y_within in
    let fr : FitsSigned w128 w.root = search rules in
    let fc : FitsSigned w128 w.across = within_fits (2 ^ 122) _ (omega arith) i.across_within in
    let f0 : FitsSigned w128 c.aside-aside_x.result.0 = within_fits (2 ^ 40) _
    (omega arith) c.aside-aside_x.ensures.first_within in
    let f1 : FitsSigned w128 c.aside-aside_x.result.1 = within_fits (2 ^ 40) _
    (omega arith) c.aside-aside_x.ensures.second_within in
    let m0 : FitsSigned w64 c.moved.result = search rules in
    let m1 : FitsSigned w64 c.moved-2.result = search rules in
    let left : not c.is_above.result ≡ is_left h c.args.q = left_is h c.args.q w.across
    c.is_above.result i.across (simp to_z-of_z at c.is_above.ensures) in
    let ax : c.aside-aside_x.result.0 ≡ aside_x
    (is_left h c.args.q) k.s c.args.q =
    aside_x_is k.s c.args.q w.x w.y _ _ _ i.x i.y left
    (simp to_z-of_z at c.aside-aside_x.ensures.first) in
    let ay : c.aside-aside_x.result.1 ≡ aside_y
    (is_left h c.args.q) k.s c.args.q =
    aside_y_is k.s c.args.q w.x w.y _ _ _ i.x i.y left
    (simp to_z-of_z at c.aside-aside_x.ensures.second) in
    let root = root_is h c.args.q w i in
    rw (to_z-of_z m0, to_z-of_z m1) (record {
      root = w.root;
      root_most = root.0;
      root_least = root.1;
      wide = c.requires.wide;
      long = c.requires.long;
      x = rounded_as w.root c.args.tolerance w.x (c.args.q.x -ℤ k.s.x) c.aside-aside_x.result.0
          (aside_x (is_left h c.args.q) k.s c.args.q) (c.moved.result -ℤ k.s.x) i.x ax
          (simp to_z-of_z at c.moved.ensures);
      y = rounded_as w.root c.args.tolerance w.y (c.args.q.y -ℤ k.s.y) c.aside-aside_x.result.1
          (aside_y (is_left h c.args.q) k.s c.args.q) (c.moved-2.result -ℤ k.s.y) i.y ay
          (simp to_z-of_z at c.moved-2.ensures);
    })
