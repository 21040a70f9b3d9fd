use Rattle.std.proofs.Common.{arith}
use Rattle.near_pairs.specs.Boxes.{box_of}
use Rattle.level_breaks.proofs.BoxPoints.{covers_through}
use Rattle.level_breaks.proofs.LevelListing.{holds_by_number, point_more}
use Rattle.level_breaks.proofs.listing.with_points.Goals as goal

pub loop-point-preserved : goal.loop-point-preserved
loop-point-preserved c =
    let g = c.grown-all.ensures in
    record {
      kept = covers_through (box_of c.grown-all.result) (box_of c.loop-point.all)
          (box_of c.args.reach) g.kept c.loop-point.invariant.kept;
      holds = point_more (box_of c.loop-point.all)
          (box_of c.grown-all.result) c.args.points.now c.loop-point.point-index g.kept
          c.loop-point.invariant.holds g.point;
    }

pub returns-clause-points : goal.returns-clause-points
returns-clause-points c =
    let l = c.loop-point-test.false in
    holds_by_number (box_of c.loop-point.all) c.args.points.now
    (λ k m. c.loop-point.invariant.holds k (omega (arith, l, m)))
