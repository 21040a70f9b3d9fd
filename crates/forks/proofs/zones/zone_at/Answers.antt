use Rattle.std.proofs.Common.{None, to_z-of_z, subst}
use Rattle.plane.specs.declared.kinds.Point.{Point}
use Rattle.arc_predicates.specs.Circles.{half_arc}
use Rattle.forks.specs.Zones.{IsFork, IsForkOf, IsSeenCircle, IsSeenFrom}
use Rattle.forks.proofs.OneZone.{no_circle, no_fork}
use Rattle.forks.proofs.zones.zone_at.Goals as goal

pub returns-in-None : goal.returns-in-None
returns-in-None c =
    let n : IsSeenCircle c.args.arc.now c.ends_from.result.0 None = c.in-None.ensures in
    no_circle c.args.tolerance c.args.arc.now c.args.straight.now c.args.at_from c.requires.shares
    (subst (λ (p : Point). IsSeenCircle c.args.arc.now p None) c.ends_from.ensures.near n)

pub returns-in-None-bend_of : goal.returns-in-None-bend_of
returns-in-None-bend_of c =
    let t = c.ranges.tolerance in
    let k = c.in-Some.circle in
    let s : IsSeenFrom c.args.arc.now c.ends_from.result.0 (half_arc k) = c.in-Some.ensures in
    let n : IsForkOf c.args.tolerance (half_arc k) c.ends_from.result.1 None = simp to_z-of_z at
    c.in-None-bend_of.ensures in
    no_fork c.args.tolerance c.args.arc.now c.args.straight.now c.args.at_from c.requires.shares k
    (subst (λ (p : Point). IsSeenFrom c.args.arc.now p (half_arc k)) c.ends_from.ensures.near s)
    (subst (λ (q : Point). IsForkOf c.args.tolerance (half_arc k) q None) c.ends_from.ensures.far n)

pub returns-in-Some-bend_of : goal.returns-in-Some-bend_of
returns-in-Some-bend_of c =
    let t = c.ranges.tolerance in
    let k = c.in-Some.circle in
    let s : IsSeenFrom c.args.arc.now c.ends_from.result.0 (half_arc k) = c.in-Some.ensures in
    let f : IsFork c.args.tolerance (half_arc k) c.ends_from.result.1 c.in-Some-bend_of.bend = simp
    to_z-of_z at c.in-Some-bend_of.ensures in
    record {
      half_arc = c.requires.half_arc;
      straight = c.requires.straight;
      shares = c.requires.shares;
      seen = half_arc k;
      is_seen = subst (λ (p : Point). IsSeenFrom c.args.arc.now p (half_arc k))
          c.ends_from.ensures.near s;
      fork = subst (λ (q : Point). IsFork c.args.tolerance (half_arc k) q c.in-Some-bend_of.bend)
          c.ends_from.ensures.far f;
    }
