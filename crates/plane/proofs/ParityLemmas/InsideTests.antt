-- The test of one edge in the words of "inside": the place is strictly below it and between the x
-- of its ends.
-- A triangle is worked as an example.
use Rattle.std.proofs.Common.{◌≡◌, ◌↔◌, true, false, pos, ◌-ℤ◌, ◌*ℤ◌, ◌<ℤ◌, ◌≤ℤ◌, List, [], ◌∷◌}
use Rattle.std.proofs.Common.{refl, arith, ap, ◌∙◌}
use Rattle.std.proofs.lemmas.Int.{ints}
use Rattle.plane.specs.Forms.Vectors.{Vector, Edge, side}
use Rattle.plane.specs.Faces.Parity.{flip, both, parity, is_right, is_under, crosses_vertical}
use Rattle.plane.proofs.Strips.CountBelow.{positive_is, not_positive}
use Rattle.plane.proofs.ParityLemmas.Wedges.{is_true, is_false}
use Rattle.plane.proofs.ParityLemmas.Parities.{both_true, flip_true}

-- low.x <= x < high.x, and the place strictly below the edge
pub record Crossed (z : Vector) (e : Edge) : Type 0 where
  pub from : (e.low.x *ℤ z.n) ≤ℤ z.x
  pub to : z.x <ℤ (e.high.x *ℤ z.n)
  pub under : side e z <ℤ pos 0

pub crosses_is : (z : Vector) (e : Edge) → (crosses_vertical z e ≡ true) ↔ Crossed z e
unfolding is_right is_under
crosses_is z e = (
  λ h.
      let a = both_true _ _ h in
      let b = both_true _ _ a.1 in
      let x = is_false ((e.low.x *ℤ z.n) -ℤ z.x) (flip_true _ a.0) in
      let y = is_true ((e.high.x *ℤ z.n) -ℤ z.x) b.0 in
      let u = is_true (pos 0 -ℤ side e z) b.1 in
      record {
        from = omega (arith, ints, x);
        to = omega (arith, ints, y);
        under = omega (arith, ints, u);
      },
  λ h.
      let x = h.from in let y = h.to in let u = h.under in
      ap (λ t. both (flip t) (both (is_right e.high z) (is_under e z)))
      (not_positive ((e.low.x *ℤ z.n) -ℤ z.x) (omega (arith, ints, x)))
      ∙ ap (λ t. both t (is_under e z))
      (positive_is ((e.high.x *ℤ z.n) -ℤ z.x) (omega (arith, ints, y)))
      ∙ positive_is (pos 0 -ℤ side e z) (omega (arith, ints, u)),
)

-- the triangle (0, 0), (4, 0), (2, 3): the place (2, 1) is inside, (2, 4) and (5, 1) are not; so is
-- (1 / 2, 1 / 2) inside and (1 / 2, 2) not
triangle : List Edge
triangle =
    record { low = record { x = pos 0; y = pos 0 }; high = record { x = pos 4; y = pos 0 } }
    ∷ record { low = record { x = pos 0; y = pos 0 }; high = record { x = pos 2; y = pos 3 } }
    ∷ record { low = record { x = pos 2; y = pos 3 }; high = record { x = pos 4; y = pos 0 } }
    ∷ []

inside : parity (crosses_vertical (record { x = pos 2; y = pos 1; n = pos 1 })) triangle ≡ true
unfolding is_right is_under side triangle
inside = refl

half_inside : parity (crosses_vertical (record { x = pos 1; y = pos 1; n = pos 2 })) triangle ≡ true
unfolding is_right is_under side triangle
half_inside = refl

over : parity (crosses_vertical (record { x = pos 2; y = pos 4; n = pos 1 })) triangle ≡ false
unfolding is_right is_under side triangle
over = refl

beside : parity (crosses_vertical (record { x = pos 5; y = pos 1; n = pos 1 })) triangle ≡ false
unfolding is_right is_under side triangle
beside = refl

half_over : parity (crosses_vertical (record { x = pos 1; y = pos 4; n = pos 2 })) triangle ≡ false
unfolding is_right is_under side triangle
half_over = refl
