use Rattle.std.proofs.Common.{rules, FitsSigned, to_z-of_z}
use Rattle.std.specs.Int.{w64}
use Rattle.resolver.specs.Values.{limits_of}
use Rattle.field_values.specs.Places.{place_view}
use Rattle.field_values.proofs.OnAxes.{space_ok}
use Rattle.field_values.proofs.numbers.read_axes.Goals as goal

pub returns : goal.returns
returns c words =
    let fz : FitsSigned w64 c.in_ok-z.z = search rules in
    let b = c.args.block.now in
    rw (to_z-of_z fz)
    (space_ok (limits_of b.x) (limits_of b.y)
    (limits_of b.z) c.args.x.now c.args.y.now c.args.z.now
    (place_view c.in_ok-at.at) c.in_ok-z.z c.in_ok-at.ensures c.in_ok-z.ensures.read)
