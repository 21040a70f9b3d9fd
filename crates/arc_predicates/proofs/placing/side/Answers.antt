use Rattle.std.proofs.Common.{◌≡◌, ◌*ℤ◌, ◌-ℤ◌, FitsSigned, to_z-of_z, rules, subst}
use Rattle.std.specs.Int.{w128, w64}
use Rattle.arc_predicates.specs.Circles.{HasSign, half_arc, place}
use Rattle.arc_predicates.proofs.PlaceNumbers.{close_above, close_right, has_side, power_is}
use Rattle.arc_predicates.proofs.PlaceNumbers.{short_within, side_has}
use Rattle.arc_predicates.proofs.TestParts.{refuted}
use Rattle.arc_predicates.proofs.placing.side.Goals as goal

pub offset-right-requires-clause-close : goal.offset-right-requires-clause-close
offset-right-requires-clause-close c =
    let s : FitsSigned w64 c.args.circle.now.s.x = search rules in
    rw (to_z-of_z c.ranges.x, to_z-of_z c.ranges.n, to_z-of_z s)
    (close_right (half_arc c.args.circle.now) c.args.x c.args.y c.args.n c.requires.part
    c.requires.close)

pub offset-above-requires-clause-close : goal.offset-above-requires-clause-close
offset-above-requires-clause-close c =
    let s : FitsSigned w64 c.args.circle.now.s.y = search rules in
    rw (to_z-of_z c.ranges.y, to_z-of_z c.ranges.n, to_z-of_z s)
    (close_above (half_arc c.args.circle.now) c.args.x c.args.y c.args.n c.requires.part
    c.requires.close)

pub side_of-requires-clause-x : goal.side_of-requires-clause-x
side_of-requires-clause-x c =
    let n = c.ranges.n in
    let x : FitsSigned w128 c.offset-right.result = search rules in
    let y : FitsSigned w128 c.offset-above.result = search rules in
    rw (to_z-of_z x)
    (short_within c.offset-right.result c.args.n c.requires.part
    ((simp to_z-of_z at c.has_side.ensures).0 c.if-has_side.true).0)

pub side_of-requires-clause-y : goal.side_of-requires-clause-y
side_of-requires-clause-y c =
    let n = c.ranges.n in
    let x : FitsSigned w128 c.offset-right.result = search rules in
    let y : FitsSigned w128 c.offset-above.result = search rules in
    rw (to_z-of_z y)
    (short_within c.offset-above.result c.args.n c.requires.part
    ((simp to_z-of_z at c.has_side.ensures).0 c.if-has_side.true).1)

pub returns-then-has_side : goal.returns-then-has_side
returns-then-has_side c =
    let k = c.args.circle.now in
    let n = c.ranges.n in
    let xx = c.ranges.x in
    let yy = c.ranges.y in
    let sx : FitsSigned w64 k.s.x = search rules in
    let sy : FitsSigned w64 k.s.y = search rules in
    let x : FitsSigned w128 c.offset-right.result = search rules in
    let y : FitsSigned w128 c.offset-above.result = search rules in
    let e : c.offset-right.result ≡ c.args.x
    -ℤ (k.s.x *ℤ c.args.n) = simp to_z-of_z at c.offset-right.ensures in
    let f : c.offset-above.result ≡ c.args.y
    -ℤ (k.s.y *ℤ c.args.n) = simp to_z-of_z at c.offset-above.ensures in (
      has_side (half_arc k) c.args.x c.args.y c.args.n _ _ k.has e f
          ((simp to_z-of_z at c.has_side.ensures).0 c.if-has_side.true),
      subst (HasSign c.side_of.result)
          (power_is (half_arc k) (place c.args.x c.args.y c.args.n) k.d k.a k.b
          c.offset-right.result c.offset-above.result k.turn k.centre_x k.centre_y e f)
          (simp to_z-of_z at c.side_of.ensures),
    )

pub returns-else-has_side : goal.returns-else-has_side
returns-else-has_side c =
    let k = c.args.circle.now in
    let n = c.ranges.n in
    let xx = c.ranges.x in
    let yy = c.ranges.y in
    let sx : FitsSigned w64 k.s.x = search rules in
    let sy : FitsSigned w64 k.s.y = search rules in
    let x : FitsSigned w128 c.offset-right.result = search rules in
    let y : FitsSigned w128 c.offset-above.result = search rules in
    let e : c.offset-right.result ≡ c.args.x
    -ℤ (k.s.x *ℤ c.args.n) = simp to_z-of_z at c.offset-right.ensures in
    let f : c.offset-above.result ≡ c.args.y
    -ℤ (k.s.y *ℤ c.args.n) = simp to_z-of_z at c.offset-above.ensures in
    λ s. refuted _ c.has_side.result (simp to_z-of_z at c.has_side.ensures) c.if-has_side.false
    (side_has (half_arc k) c.args.x c.args.y c.args.n _ _ e f s)
