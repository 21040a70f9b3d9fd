use Rattle.std.proofs.Common.{◌≡◌, ◌-ℤ◌, ◌^◌, FitsSigned, to_z-of_z, rules, subst}
use Rattle.std.specs.Int.{w128, w64}
use Rattle.plane.specs.Rule.Places.{point}
use Rattle.arc_predicates.specs.Circles.{HasSign, half_arc}
use Rattle.arc_predicates.proofs.PlaceNumbers.{near_over, near_wider, one_part, power_is}
use Rattle.arc_predicates.proofs.placing.place_of.Goals as goal

pub difference-right-requires : goal.difference-right-requires
difference-right-requires c =
    let s : FitsSigned w64 c.args.circle.now.s.x = search rules in
    let p : FitsSigned w64 c.args.p.x = search rules in
    rw (to_z-of_z s, to_z-of_z p) (near_wider c.args.circle.now.s.x c.args.p.x c.requires.x)

pub difference-above-requires : goal.difference-above-requires
difference-above-requires c =
    let s : FitsSigned w64 c.args.circle.now.s.y = search rules in
    let p : FitsSigned w64 c.args.p.y = search rules in
    rw (to_z-of_z s, to_z-of_z p) (near_wider c.args.circle.now.s.y c.args.p.y c.requires.y)

pub side_of-requires-clause-x : goal.side_of-requires-clause-x
side_of-requires-clause-x c =
    let s : FitsSigned w64 c.args.circle.now.s.x = search rules in
    let p : FitsSigned w64 c.args.p.x = search rules in
    let x : FitsSigned w128 c.difference-right.result = search rules in
    rw (to_z-of_z x)
    (near_over (2 ^ 32) c.args.circle.now.s.x c.args.p.x c.difference-right.result c.requires.x
    (simp to_z-of_z at c.difference-right.ensures.value))

pub side_of-requires-clause-y : goal.side_of-requires-clause-y
side_of-requires-clause-y c =
    let s : FitsSigned w64 c.args.circle.now.s.y = search rules in
    let p : FitsSigned w64 c.args.p.y = search rules in
    let x : FitsSigned w128 c.difference-above.result = search rules in
    rw (to_z-of_z x)
    (near_over (2 ^ 32) c.args.circle.now.s.y c.args.p.y c.difference-above.result c.requires.y
    (simp to_z-of_z at c.difference-above.ensures.value))

pub returns : goal.returns
returns c =
    let k = c.args.circle.now in
    let sx : FitsSigned w64 k.s.x = search rules in
    let sy : FitsSigned w64 k.s.y = search rules in
    let px : FitsSigned w64 c.args.p.x = search rules in
    let py : FitsSigned w64 c.args.p.y = search rules in
    let x : FitsSigned w128 c.difference-right.result = search rules in
    let y : FitsSigned w128 c.difference-above.result = search rules in
    let e : c.difference-right.result ≡ c.args.p.x
    -ℤ k.s.x = simp to_z-of_z at c.difference-right.ensures.value in
    let f : c.difference-above.result ≡ c.args.p.y
    -ℤ k.s.y = simp to_z-of_z at c.difference-above.ensures.value in
    subst (HasSign c.side_of.result)
    (power_is (half_arc k) (point c.args.p) k.d k.a k.b c.difference-right.result
    c.difference-above.result k.turn k.centre_x k.centre_y
    (one_part c.args.p.x k.s.x c.difference-right.result e)
    (one_part c.args.p.y k.s.y c.difference-above.result f))
    (simp to_z-of_z at c.side_of.ensures)
