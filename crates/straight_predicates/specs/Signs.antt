-- The three turns.
use Rattle.std.specs.Prelude.{◌≡◌, ◌⊎◌, ℤ, pos, ◌<ℤ◌}
use Rattle.straight_predicates.specs.declared.turns.Turn.{Turn}
use Rattle.straight_predicates.specs.declared.turns.Turn.TheVariants.{Left, Straight, Right}

-- The turn has the sign of the cross product: Left above 0, Straight at 0, Right below 0.
abbrev pub HasSign : Turn → ℤ → Type 0
HasSign Left z = pos 0 <ℤ z
HasSign Straight z = z ≡ pos 0
HasSign Right z = z <ℤ pos 0

-- Both turns are strictly to one side.
abbrev pub AreOneSide : Turn → Turn → Type 0
AreOneSide s t = ((s ≡ Left) × (t ≡ Left)) ⊎ ((s ≡ Right) × (t ≡ Right))

-- Neither turn is to a side.
abbrev pub AreStraight : Turn → Turn → Type 0
AreStraight s t = (s ≡ Straight) × (t ≡ Straight)
