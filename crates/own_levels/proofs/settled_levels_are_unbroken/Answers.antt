use Rattle.own_levels.proofs.OwnLevels.{one_level}
use Rattle.own_levels.proofs.settled_levels_are_unbroken.Goals as goal

pub returns : goal.returns
returns c = record {
  groups = λ g level i settled l. record { there = l; tube = λ h. settled.tubes i h };
  unbroken = λ g level i j settled b.
      c.settled_is_unbroken.ensures g (λ k. level) i j settled ((one_level g level i j b.order).0 b);
}
