-- A small tube of two bays: its triangles, its bounds and its labels are as wanted, and its turning
-- numbers compute.
use Rattle.std.proofs.Common.{◌≡◌, ℕ, zero, suc, ◌<◌, List, [], ◌∷◌, pos, inl, inr, refl, arith, ap}
use Rattle.std.proofs.lemmas.Int.{ints}
use Rattle.plane.specs.declared.kinds.Point.{Point}
use Rattle.plane.specs.Lists.{Has}
use Rattle.plane.specs.Forms.Vectors.{Edge, point, side, sweep}
use Rattle.plane.specs.Runs.Steps.{Step}
use Rattle.plane.specs.Faces.Replays.{replay}
use Rattle.plane.specs.Faces.Cells.{sector}
use Rattle.plane.specs.Faces.Halves.{Half, under, over, edge_of, mark}
use Rattle.plane.specs.Faces.Labels.{Labels}
use Rattle.plane.specs.Faces.Cells.{label_of}
use Rattle.plane.specs.Tubes.Windings.{lead, turning, total, Bay, tiles, bounds, IsTiled}
use Rattle.plane.specs.Tubes.Facing.{IsDrawnTube}

abbrev at_point : ℕ → ℕ → Point
at_point x y = record { x = pos x; y = pos y }

abbrev edge : ℕ → Edge
edge zero = record { low = at_point 0 0; high = at_point 4 2 }
edge (suc zero) = record { low = at_point 4 2; high = at_point 8 0 }
edge (suc (suc zero)) = record { low = at_point 0 0; high = at_point 2 3 }
edge (suc (suc (suc zero))) = record { low = at_point 2 3; high = at_point 6 3 }
edge (suc (suc (suc (suc n)))) = record { low = at_point 6 3; high = at_point 8 0 }

abbrev bay : Bay
bay = record { outer = at_point 2 3; inner = at_point 4 2 }

abbrev bays : List Bay
bays = record { outer = at_point 6 3; inner = at_point 8 0 } ∷ []

abbrev facing : List Half
facing = over 0 ∷ under 2 ∷ over 1 ∷ under 3 ∷ under 4 ∷ []

-- the inside has the label 1, all else 0
abbrev above : ℕ → ℕ
above zero = 1
above (suc zero) = 1
above (suc (suc n)) = 0

abbrev below : ℕ → ℕ
below zero = 0
below (suc zero) = 0
below (suc (suc n)) = 1

abbrev labels : Labels
labels = record { below = below; above = above }

abbrev label : Half → ℕ
label = mark labels

abbrev steps : List Step
steps = record { at = at_point 0 0; below = []; ending = []; starting = 0 ∷ 2 ∷ []; above = [] }
    ∷ record { at = at_point 2 3; below = 0 ∷ []; ending = 2 ∷ []; starting = 3 ∷ []; above = [] }
    ∷ record { at = at_point 4 2; below = []; ending = 0 ∷ []; starting = 1 ∷ []; above = 3 ∷ [] }
    ∷ record { at = at_point 6 3; below = 1 ∷ []; ending = 3 ∷ []; starting = 4 ∷ []; above = [] }
    ∷ record { at = at_point 8 0; below = []; ending = 1 ∷ 4 ∷ []; starting = []; above = [] }
    ∷ []

tiled : IsTiled (pos 4) (tiles (at_point 0 0) (bay ∷ bays))
unfolding side sweep
tiled = (
  (
    omega (arith, ints),
    record {
      ab = λ e. omega (arith, ints, e);
      bc = λ e. omega (arith, ints, e);
      ca = λ e. omega (arith, ints, e);
    },
  ),
  (
    (
      omega (arith, ints),
      record {
        ab = λ e. omega (arith, ints, e);
        bc = λ e. omega (arith, ints, e);
        ca = λ e. omega (arith, ints, e);
      },
    ),
    (
      (
        omega (arith, ints),
        record {
          ab = λ e. omega (arith, ints, e);
          bc = λ e. omega (arith, ints, e);
          ca = λ e. omega (arith, ints, e);
        },
      ),
      tt,
    ),
  ),
)

inside : total (turning (pos 4) (record { x = pos 8; y = pos 5; n = pos 2 }))
    (bounds (at_point 0 0) (bay ∷ bays)) ≡ pos 1
unfolding side sweep lead turning
inside = refl

beneath : total (turning (pos 4) (point (at_point 4 1))) (bounds (at_point 0 0) (bay ∷ bays))
    ≡ pos 0
unfolding side sweep lead turning
beneath = refl

inside_label : label_of labels (replay (pos 4) 5 edge steps)
    (sector (replay (pos 4) 5 edge steps) (record { x = pos 8; y = pos 5; n = pos 2 })) ≡ 1
unfolding side sweep
inside_label = refl

only : (h : Half) → edge_of h < 5 → label h ≡ 1 → Has h facing
only (over zero) l e = inl refl
only (over (suc zero)) l e = inr (inr (inl refl))
only (over (suc (suc n))) l e = absurd (omega (arith, e))
only (under zero) l e = absurd (omega (arith, e))
only (under (suc zero)) l e = absurd (omega (arith, e))
only (under (suc (suc zero))) l e = inr (inl refl)
only (under (suc (suc (suc zero)))) l e = inr (inr (inr (inl refl)))
only (under (suc (suc (suc (suc zero))))) l e = inr (inr (inr (inr (inl refl))))
only (under (suc (suc (suc (suc (suc n)))))) l e = absurd (omega (arith, l))

faces : (h : Half) → Has h facing → label h ≡ 1
faces h (inl e) = ap label e
faces h (inr (inl e)) = ap label e
faces h (inr (inr (inl e))) = ap label e
faces h (inr (inr (inr (inl e)))) = ap label e
faces h (inr (inr (inr (inr (inl e))))) = ap label e
faces h (inr (inr (inr (inr (inr e))))) = absurd e

few : (e f : ℕ) → f < 5 → e ≡ f → e < 5
few e f l q = omega (arith, l, q)

fits : (h : Half) → Has h facing → edge_of h < 5
fits h (inl e) = few _ 0 (omega arith) (ap edge_of e)
fits h (inr (inl e)) = few _ 2 (omega arith) (ap edge_of e)
fits h (inr (inr (inl e))) = few _ 1 (omega arith) (ap edge_of e)
fits h (inr (inr (inr (inl e)))) = few _ 3 (omega arith) (ap edge_of e)
fits h (inr (inr (inr (inr (inl e))))) = few _ 4 (omega arith) (ap edge_of e)
fits h (inr (inr (inr (inr (inr e))))) = absurd e

not_among : (n a b c d : ℕ) → (n ≡ a → ⊥) → (n ≡ b → ⊥) → (n ≡ c → ⊥) → (n ≡ d → ⊥)
    → Has n (a ∷ b ∷ c ∷ d ∷ []) → ⊥
not_among n a b c d x y z w (inl e) = x e
not_among n a b c d x y z w (inr (inl e)) = y e
not_among n a b c d x y z w (inr (inr (inl e))) = z e
not_among n a b c d x y z w (inr (inr (inr (inl e)))) = w e
not_among n a b c d x y z w (inr (inr (inr (inr e)))) = e

is_tube : IsDrawnTube (replay (pos 4) 5 edge steps) labels 1 (at_point 0 0) bay bays facing
is_tube = record {
  tiled = tiled;
  bounds = refl;
  faced = record {
    some_label = λ e. omega (arith, e);
    fits = fits;
    once = (
      λ m. not_among 0 2 1 3 4 (λ e. omega (arith, e)) (λ e. omega (arith, e))
          (λ e. omega (arith, e)) (λ e. omega (arith, e)) m,
      (
        λ m. elim m [
          | inl e ↦ omega (arith, e)
          | inr n ↦ elim n [
            | inl e ↦ omega (arith, e)
            | inr o ↦ elim o [ inl e ↦ omega (arith, e) | inr p ↦ p ]
          ]
        ],
        (
          λ m. elim m [
            | inl e ↦ omega (arith, e)
            | inr n ↦ elim n [ inl e ↦ omega (arith, e) | inr o ↦ o ]
          ],
          (
            λ m. elim m [ inl e ↦ omega (arith, e) | inr n ↦ n ],
            (λ m. m, tt),
          ),
        ),
      ),
    );
    faces = faces;
    only = only;
  };
}
