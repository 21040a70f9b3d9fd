use Rattle.decimals.proofs.WrittenParts.{power_positive}
use Rattle.itffaults.proofs.fault_text.words.add_scaled.Goals as goal

pub nonzero_div-magnitude : goal.nonzero_div-magnitude
nonzero_div-magnitude c = rw (c.pow-unit.ensures) (power_positive c.from.result)

pub nonzero_rem-magnitude : goal.nonzero_rem-magnitude
nonzero_rem-magnitude c = rw (c.pow-unit.ensures) (power_positive c.from.result)
