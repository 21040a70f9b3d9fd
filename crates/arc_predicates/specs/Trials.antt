-- Trial crossings of a straight and a half arc, counted along the straight.
use Rattle.std.specs.Prelude.{◌≡◌, ◌⊎◌, ℕ, ◌+◌, ◌<◌, Option, None, Some, pos, ◌≤ℤ◌}
use Rattle.plane.specs.declared.kinds.Curve.{Curve}
use Rattle.plane.specs.Rule.BadPairs.{IsTrialCrossing, sixteenth}
use Rattle.plane.specs.Rule.HalfArcs.{HalfArc, HasSide, bow, power}
use Rattle.plane.specs.Rule.Places.{Vector}
use Rattle.arc_predicates.specs.Circles.{AreClose, HasSign}
use Rattle.arc_predicates.specs.declared.sides.Side.{Side}
use Rattle.arc_predicates.specs.declared.sides.Side.TheVariants as side
use Rattle.arc_predicates.specs.declared.trials.Trial.{Trial}

-- The place of that number and the next one among the straight's places at sixteenths are a trial
-- crossing of the half arc.
abbrev pub IsTrial : Curve → HalfArc → ℕ → Type 0
IsTrial c h k = IsTrialCrossing h (sixteenth c k) (sixteenth c (k + 1))

-- The first pair of neighbours that is a trial crossing; none where no pair is one.
abbrev pub IsFirstTrial : Option Trial → Curve → HalfArc → Type 0
IsFirstTrial None c h = (k : ℕ) → k < 16 → IsTrial c h k → ⊥
IsFirstTrial (Some t) c h =
    (t.sixteenth < 16) × IsTrial c h t.sixteenth × ((k : ℕ) → k < t.sixteenth → IsTrial c h k → ⊥)

-- The side of a place that has one and is not on the third point's side of the chord; else none.
abbrev pub IsSideAway : Option Side → HalfArc → Vector → Type 0
IsSideAway None h z = HasSide h z → pos 0 ≤ℤ bow h z → ⊥
IsSideAway (Some s) h z = HasSide h z × (pos 0 ≤ℤ bow h z) × HasSign s (power h z)

-- One of the two is inside and the other outside.
abbrev pub AreEitherSide : Option Side → Option Side → Type 0
AreEitherSide p q =
    ((p ≡ Some side.Inside) × (q ≡ Some side.Outside))
    ⊎ ((p ≡ Some side.Outside) × (q ≡ Some side.Inside))

-- The points of the half arc are close to each other, and the first is close to both ends of the
-- straight.
pub record CurvesAreClose (c d : Curve) : Type 0 where
  pub ends : AreClose d.from d.to
  pub first : AreClose d.from d.third
  pub second : AreClose d.to d.third
  pub from : AreClose d.from c.from
  pub to : AreClose d.from c.to
