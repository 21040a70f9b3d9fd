-- What a turn says of the sign.
use Rattle.std.proofs.Common.{◌≡◌, ℤ, pos, ◌<ℤ◌, ◌≤ℤ◌, arith, refl}
use Rattle.std.proofs.lemmas.Int.{ints}
use Rattle.straight_predicates.specs.Signs.{HasSign}
use Rattle.straight_predicates.specs.declared.turns.Turn.{Turn}
use Rattle.straight_predicates.specs.declared.turns.Turn.TheVariants.{Left, Straight, Right}

pub straight : (t : Turn) (z : ℤ) → HasSign t z → t ≡ Straight → z ≡ pos 0
straight Left z h e = cc
straight Straight z h e = h
straight Right z h e = cc

pub not_straight : (t : Turn) (z : ℤ) → HasSign t z → (t ≡ Straight → ⊥) → z ≤ℤ pos 0 → z <ℤ pos 0
not_straight Left z h f l = absurd (omega (arith, ints, h, l))
not_straight Straight z h f l = absurd (f refl)
not_straight Right z h f l = h
