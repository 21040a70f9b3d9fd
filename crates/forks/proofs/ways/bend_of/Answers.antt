use Rattle.std.proofs.Common.{◌^◌, IsTrue, FitsSigned, to_z-of_z, rules, arith}
use Rattle.std.specs.Int.{w128}
use Rattle.plane.specs.Numbers.{IsWithin}
use Rattle.plane.proofs.Algebra.Bounds.{within_fits, within_more}
use Rattle.arc_predicates.specs.Circles.{half_arc}
use Rattle.arc_predicates.proofs.PlaceNumbers.{bend_within}
use Rattle.arc_predicates.proofs.Sums.{within_by}
use Rattle.arc_predicates.proofs.TestParts.{refuted}
use Rattle.forks.proofs.Forking.{long_of, out_of, tangent_of}
use Rattle.forks.proofs.ways.bend_of.Goals as goal

pub returns-then-not-is_long : goal.returns-then-not-is_long
returns-then-not-is_long c =
    let t = c.ranges.tolerance in
    let fr : FitsSigned w128 c.way_to-way.result.root = search rules in
    λ b f. refuted _ c.is_long.result (simp to_z-of_z at c.is_long.ensures) c.if-not-is_long.true
    (long_of (half_arc c.args.circle.now) c.args.q c.way_to-way.result c.way_to-way.ensures
    c.args.tolerance _ b f.is_bend)

pub returns-then-not-is_along : goal.returns-then-not-is_along
returns-then-not-is_along c =
    λ b f. refuted _ c.is_along.result c.is_along.ensures c.if-not-is_along.true f.along

pub returns-then-not-is_sixteenth : goal.returns-then-not-is_sixteenth
returns-then-not-is_sixteenth c =
    let i = c.way_to-way.ensures in
    let ft : FitsSigned w128 c.way_to-way.result.toward = within_fits (2 ^ 122) _
    (omega arith) i.toward_within in
    let fc : FitsSigned w128 c.way_to-way.result.across = within_fits (2 ^ 122) _
    (omega arith) i.across_within in
    λ b f. refuted _ c.is_sixteenth.result
    (tangent_of (half_arc c.args.circle.now) c.args.q c.way_to-way.result i
    c.is_sixteenth.result (simp to_z-of_z at c.is_sixteenth.ensures)) c.if-not-is_sixteenth.true
    f.tangent

pub is_quotient_below-requires-clause-d : goal.is_quotient_below-requires-clause-d
is_quotient_below-requires-clause-d c =
    let k = c.args.circle.now in
    let d : IsWithin (2 ^ 53) k.d = within_by (2 ^ 53) k.d _ k.turn
    (bend_within (half_arc k) k.has) in
    let f : FitsSigned w128 k.d = within_fits (2 ^ 53) k.d (omega arith) d in
    rw (to_z-of_z f) (within_more (2 ^ 53) (2 ^ 122) k.d (omega arith) d)

pub returns-then-not-is_quotient_below : goal.returns-then-not-is_quotient_below
returns-then-not-is_quotient_below c =
    let k = c.args.circle.now in
    let i = c.way_to-way.ensures in
    let fd : FitsSigned w128 k.d = within_fits (2 ^ 53) k.d (omega arith)
    (within_by (2 ^ 53) k.d _ k.turn (bend_within (half_arc k) k.has)) in
    let ft : FitsSigned w128 c.way_to-way.result.toward = within_fits (2 ^ 122) _
    (omega arith) i.toward_within in
    let fs : FitsSigned w128 c.way_to-way.result.square = search rules in
    λ b f. refuted _ c.is_quotient_below.result
    (out_of (half_arc k) c.args.q c.way_to-way.result i k.d c.is_quotient_below.result k.turn
    (simp to_z-of_z at c.is_quotient_below.ensures)) c.if-not-is_quotient_below.true f.out

pub returns : goal.returns
returns c =
    let k = c.args.circle.now in
    let t = c.ranges.tolerance in
    let i = c.way_to-way.ensures in
    let fd : FitsSigned w128 k.d = within_fits (2 ^ 53) k.d (omega arith)
    (within_by (2 ^ 53) k.d _ k.turn (bend_within (half_arc k) k.has)) in
    let ft : FitsSigned w128 c.way_to-way.result.toward = within_fits (2 ^ 122) _
    (omega arith) i.toward_within in
    let fc : FitsSigned w128 c.way_to-way.result.across = within_fits (2 ^ 122) _
    (omega arith) i.across_within in
    let fs : FitsSigned w128 c.way_to-way.result.square = search rules in
    let a : IsTrue c.is_along.result = search rules in
    let s : IsTrue c.is_sixteenth.result = search rules in
    let o : IsTrue c.is_quotient_below.result = search rules in
    record {
      circle = k.has;
      is_bend = simp to_z-of_z at c.bend_at.ensures;
      along = c.is_along.ensures.0 a;
      tangent = (tangent_of (half_arc k) c.args.q c.way_to-way.result i c.is_sixteenth.result
          (simp to_z-of_z at c.is_sixteenth.ensures)).0 s;
      out = (out_of (half_arc k) c.args.q c.way_to-way.result i k.d c.is_quotient_below.result
          k.turn (simp to_z-of_z at c.is_quotient_below.ensures)).0 o;
    }
