use Rattle.std.proofs.Common.{FitsSigned, to_z-of_z, rules}
use Rattle.std.specs.Int.{w64}
use Rattle.plane_tests.proofs.circles.are_close.Goals as goal

pub returns-then-is_close : goal.returns-then-is_close
returns-then-is_close c h =
    let px : FitsSigned w64 c.args.p.x = search rules in
    let py : FitsSigned w64 c.args.p.y = search rules in
    let qx : FitsSigned w64 c.args.q.x = search rules in
    let qy : FitsSigned w64 c.args.q.y = search rules in
    record {
      x = simp to_z-of_z at (c.is_close.ensures c.if-is_close.true);
      y = simp to_z-of_z at (c.is_close-then-is_close.ensures h);
    }
