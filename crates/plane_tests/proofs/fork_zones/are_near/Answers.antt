use Rattle.std.proofs.Common.{FitsSigned, to_z-of_z, rules}
use Rattle.std.specs.Int.{w64}
use Rattle.plane_tests.proofs.fork_zones.are_near.Goals as goal

pub returns-then-is_near : goal.returns-then-is_near
returns-then-is_near c h =
    let px : FitsSigned w64 c.args.p.x = search rules in
    let py : FitsSigned w64 c.args.p.y = search rules in
    let qx : FitsSigned w64 c.args.q.x = search rules in
    let qy : FitsSigned w64 c.args.q.y = search rules in
    record {
      x = simp to_z-of_z at (c.is_near.ensures c.if-is_near.true);
      y = simp to_z-of_z at (c.is_near-then-is_near.ensures h);
    }
