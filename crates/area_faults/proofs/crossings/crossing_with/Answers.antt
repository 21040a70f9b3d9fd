use Rattle.std.proofs.Common.{rules, ◌≡◌, ◌-ℤ◌, FitsSigned, to_z-of_z}
use Rattle.std.specs.Int.{w128, w64}
use Rattle.plane.specs.Rule.MeetingPlaces.{IsInUnit, part, turning}
use Rattle.plane.specs.Rule.Places.{Vector}
use Rattle.area_faults.specs.Crossings.{IsOnBoth, IsRounded}
use Rattle.area_faults.proofs.CrossingParts.{rounded_meeting}
use Rattle.area_faults.proofs.Rounding.{unit_fits}
use Rattle.area_faults.proofs.crossings.crossing_with.Goals as goal

-- the place in whole units, before it is cast
pub near : (c : goal.After-rounded-y) (z : Vector)
    → IsOnBoth c.args.straight.now.from c.args.straight.now.to c.args.e c.args.f z
    → IsInUnit (record { x = c.rounded-x.result; y = c.rounded-y.result }) z
near c z on =
    let s = c.args.straight.now in
    let t = c.ranges.turn in
    let ax : FitsSigned w64 s.from.x = search rules in
    let ay : FitsSigned w64 s.from.y = search rules in
    let bx : FitsSigned w64 s.to.x = search rules in
    let by : FitsSigned w64 s.to.y = search rules in
    let p : FitsSigned w128 c.part_before-part.result = search rules in
    let part_is : c.part_before-part.result
    ≡ part s.from c.args.e c.args.f = c.part_before-part.ensures.value in
    let turn_is : c.args.turn ≡ turning s.from s.to c.args.e c.args.f = c.requires.turn in
    let x : IsRounded s.from.x (s.to.x -ℤ s.from.x) c.part_before-part.result c.args.turn
    c.rounded-x.result = simp to_z-of_z at c.rounded-x.ensures in
    let y : IsRounded s.from.y (s.to.y -ℤ s.from.y) c.part_before-part.result c.args.turn
    c.rounded-y.result = simp to_z-of_z at c.rounded-y.ensures in
    rounded_meeting s.from s.to c.args.e c.args.f c.part_before-part.result c.args.turn
    c.rounded-x.result c.rounded-y.result part_is turn_is x y c.requires.left
    c.rounded_meetings_are_near.ensures z on

fits : (c : goal.After-rounded-y)
    → FitsSigned w64 c.rounded-x.result × FitsSigned w64 c.rounded-y.result
fits c =
    let s = c.args.straight.now in
    let ax : FitsSigned w64 s.from.x = search rules in
    let ay : FitsSigned w64 s.from.y = search rules in
    let bx : FitsSigned w64 s.to.x = search rules in
    let by : FitsSigned w64 s.to.y = search rules in
    let (z, on) = c.requires.meet in
    unit_fits s.from s.to (record {
      x = c.rounded-x.result;
      y = c.rounded-y.result;
    }) z ax ay bx by on.place on.first (near c z on)

pub overflow_cast-result : goal.overflow_cast-result
overflow_cast-result c =
    let r : FitsSigned w128 c.rounded-x.result = search rules in
    rw (to_z-of_z r) ((fits c).0)

pub overflow_cast-result-2 : goal.overflow_cast-result-2
overflow_cast-result-2 c =
    let r : FitsSigned w128 c.rounded-y.result = search rules in
    rw (to_z-of_z r) ((fits c).1)

pub returns : goal.returns
returns c = λ z on.
    let f = fits c in
    let rx : FitsSigned w128 c.rounded-x.result = search rules in
    let ry : FitsSigned w128 c.rounded-y.result = search rules in
    let x = f.0 in
    let y = f.1 in
    rw (to_z-of_z rx, to_z-of_z ry, to_z-of_z x, to_z-of_z y) (near c z on)
