use Rattle.std.proofs.Common.{FitsSigned, to_z-of_z, rules}
use Rattle.std.specs.Int.{w64}
use Rattle.plane_tests.proofs.fork_zones.are_short.Goals as goal

pub returns-then-is_short : goal.returns-then-is_short
returns-then-is_short c h =
    let px : FitsSigned w64 c.args.p.x = search rules in
    let py : FitsSigned w64 c.args.p.y = search rules in
    record {
      x = simp to_z-of_z at (c.is_short.ensures c.if-is_short.true);
      y = simp to_z-of_z at (c.is_short-then-is_short.ensures h);
    }
