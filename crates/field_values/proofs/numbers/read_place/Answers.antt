use Rattle.std.proofs.Common.{rules, FitsSigned, to_z-of_z}
use Rattle.std.specs.Int.{w64}
use Rattle.resolver.specs.Values.{limits_of}
use Rattle.field_values.proofs.OnAxes.{place_ok}
use Rattle.field_values.proofs.numbers.read_place.Goals as goal

pub returns : goal.returns
returns c =
    let fx : FitsSigned w64 c.in_ok-x.x = search rules in
    let fy : FitsSigned w64 c.in_ok-y.y = search rules in
    rw (to_z-of_z fx, to_z-of_z fy)
    (place_ok (limits_of c.args.across.now)
    (limits_of c.args.upward.now) c.args.x.now c.args.y.now c.in_ok-x.x c.in_ok-y.y
    c.in_ok-x.ensures.read c.in_ok-y.ensures.read)
