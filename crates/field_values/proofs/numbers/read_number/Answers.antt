use Rattle.std.proofs.Common.{rules, refl, FitsSigned, to_z-of_z}
use Rattle.std.specs.Int.{w64}
use Rattle.decimals.proofs.Laws.{value_is_short}
use Rattle.field_values.proofs.numbers.read_number.Goals as goal

pub within-requires : goal.within-requires
within-requires c =
    let w = value_is_short c.args.word.now c.args.limits.now.scale c.in-Ok.value
    ((c.in-Ok.ensures.value c.in-Ok.value).0 refl) in
    let f : FitsSigned w64 c.in-Ok.value = search rules in
    rw (to_z-of_z f) (record { low = w.0; high = w.1 })
