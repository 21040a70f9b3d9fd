use Rattle.std.proofs.Common.{subst}
use Rattle.plane.specs.Rule.Plans.{plan}
use Rattle.tubes.specs.TubedEdges.{IsListAt, IsUsable}
use Rattle.plane_tests.proofs.foreign_corners.found_in.Goals as goal

pub found_among-requires : goal.found_among-requires
found_among-requires c =
    let d = plan c.args.drawing.now in
    record {
      low = c.requires;
      list = subst (IsListAt d (λ n. c.args.level)) c.in-Some.is c.in_ok-list.ensures.list;
      usable = subst (IsUsable d) c.in-Some.is c.in_ok-list.ensures.usable;
    }
