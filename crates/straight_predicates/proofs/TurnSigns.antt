-- What two turns over an edge say of the sides of the two points.
use Rattle.std.proofs.Common.{◌≡◌, ℤ, pos, ◌<ℤ◌, inl, inr, refl, arith, sym, ◌∙◌, subst}
use Rattle.std.proofs.lemmas.Int.{ints}
use Rattle.plane.specs.declared.kinds.Edge.{Edge}
use Rattle.plane.specs.Rule.Turns.{cross}
use Rattle.plane.proofs.Linear.EdgePlaces.{side-cross}
use Rattle.straight_predicates.specs.declared.turns.Turn.{Turn}
use Rattle.straight_predicates.specs.declared.turns.Turn.TheVariants.{Left, Straight, Right}
use Rattle.straight_predicates.specs.Signs.{HasSign, AreOneSide, AreStraight}
use Rattle.straight_predicates.proofs.OneSide.{IsAside}
use Rattle.straight_predicates.proofs.Crossing.{IsAcross}
use Rattle.straight_predicates.proofs.OneLine.{IsOneLine}

is_left : (r : Turn) (a : ℤ) → HasSign r a → pos 0 <ℤ a → r ≡ Left
is_left Left a h l = refl
is_left Straight a h l = absurd (omega (arith, ints, h, l))
is_left Right a h l = absurd (omega (arith, ints, h, l))

is_right : (r : Turn) (a : ℤ) → HasSign r a → a <ℤ pos 0 → r ≡ Right
is_right Left a h l = absurd (omega (arith, ints, h, l))
is_right Straight a h l = absurd (omega (arith, ints, h, l))
is_right Right a h l = refl

is_straight : (r : Turn) (a : ℤ) → HasSign r a → a ≡ pos 0 → r ≡ Straight
is_straight Left a h l = absurd (omega (arith, ints, h, l))
is_straight Straight a h l = refl
is_straight Right a h l = absurd (omega (arith, ints, h, l))

-- the turns over s at the two ends of t
pub record AreTurns (s t : Edge) (first second : Turn) : Type 0 where
  pub low : HasSign first (cross s.low s.high t.low)
  pub high : HasSign second (cross s.low s.high t.high)

pub turns_aside : (s t : Edge) (low high : Turn) → AreTurns s t low high → AreOneSide low high
    → IsAside s t
turns_aside s t low high h (inl e) = inl (
  subst (λ (x : ℤ). pos 0 <ℤ x) (sym (side-cross s t.low))
      (subst (λ (r : Turn). HasSign r (cross s.low s.high t.low)) e.0 h.low),
  subst (λ (x : ℤ). pos 0 <ℤ x) (sym (side-cross s t.high))
      (subst (λ (r : Turn). HasSign r (cross s.low s.high t.high)) e.1 h.high),
)
turns_aside s t low high h (inr e) = inr (
  subst (λ (x : ℤ). x <ℤ pos 0) (sym (side-cross s t.low))
      (subst (λ (r : Turn). HasSign r (cross s.low s.high t.low)) e.0 h.low),
  subst (λ (x : ℤ). x <ℤ pos 0) (sym (side-cross s t.high))
      (subst (λ (r : Turn). HasSign r (cross s.low s.high t.high)) e.1 h.high),
)

pub aside_turns : (s t : Edge) (low high : Turn) → AreTurns s t low high → IsAside s t
    → AreOneSide low high
aside_turns s t low high h (inl a) = inl (
  is_left low _ h.low (subst (λ (x : ℤ). pos 0 <ℤ x) (side-cross s t.low) a.0),
  is_left high _ h.high (subst (λ (x : ℤ). pos 0 <ℤ x) (side-cross s t.high) a.1),
)
aside_turns s t low high h (inr a) = inr (
  is_right low _ h.low (subst (λ (x : ℤ). x <ℤ pos 0) (side-cross s t.low) a.0),
  is_right high _ h.high (subst (λ (x : ℤ). x <ℤ pos 0) (side-cross s t.high) a.1),
)

pub turns_across : (s t : Edge) (low high : Turn) → AreTurns s t low high
    → (AreStraight low high → ⊥) → IsAcross s t
turns_across s t low high h n a =
    n (
      is_straight low _ h.low (sym (side-cross s t.low) ∙ a.0),
      is_straight high _ h.high (sym (side-cross s t.high) ∙ a.1),
    )

pub crosses_line : (s t : Edge) → cross s.low s.high t.low ≡ pos 0
    → cross s.low s.high t.high ≡ pos 0 → IsOneLine s t
crosses_line s t e f = record { low = side-cross s t.low ∙ e; high = side-cross s t.high ∙ f }
