use Rattle.std.proofs.Common.{true, refl}
use Rattle.std.proofs.Math.Bool.{beq}
use Rattle.forks.proofs.HeldParts.{held_any}
use Rattle.forks.proofs.bending.is_held.Goals as goal

pub returns : goal.returns
returns c = held_any (λ y. beq y true) refl refl c.args.held.now c.args.straight.start
    c.args.straight.end c.contains.result c.requires.fits c.contains.ensures.cases
