-- Two ends strictly to one side of a line: the edges are apart.
use Rattle.std.proofs.Common.{◌≡◌, ℤ, pos, ◌+ℤ◌, ◌*ℤ◌, ◌-ℤ◌, ◌<ℤ◌, ◌≤ℤ◌, ◌⊎◌, inl, inr, [], ◌∷◌}
use Rattle.std.proofs.Common.{refl, arith}
use Rattle.std.proofs.lemmas.Int.{ints}
use Rattle.plane.specs.Forms.Vectors.{point, side}
use Rattle.plane.specs.declared.kinds.Edge.{Edge}
use Rattle.plane.specs.Forms.Meets as edges
use Rattle.plane.proofs.Algebra.Laws.{weight_at_most}
use Rattle.plane.proofs.Algebra.Ring.{at, num, plus, minus, times, vars, ring}
use Rattle.plane.proofs.Linear.EdgePlaces.{on_line, balanced}

-- the ends of t lie strictly to one side of s
abbrev pub IsAside : Edge → Edge → Type 0
IsAside s t =
    ((pos 0 <ℤ side s (point t.low)) × (pos 0 <ℤ side s (point t.high)))
    ⊎ ((side s (point t.low) <ℤ pos 0) × (side s (point t.high) <ℤ pos 0))

above_sum : (g h i j : ℤ) → pos 0 <ℤ g → pos 0 <ℤ h → pos 0 ≤ℤ i → pos 0 ≤ℤ j → pos 0 <ℤ (i +ℤ j)
    → (i *ℤ g) +ℤ (j *ℤ h) ≡ pos 0 → ⊥
above_sum g h i j hg hh hi hj some e =
    let a = weight_at_most i g hi hg in
    let b = weight_at_most j h hj hh in
    omega (arith, ints, a, b, some, e)

below_sum : (g h i j : ℤ) → g <ℤ pos 0 → h <ℤ pos 0 → pos 0 ≤ℤ i → pos 0 ≤ℤ j → pos 0 <ℤ (i +ℤ j)
    → (i *ℤ g) +ℤ (j *ℤ h) ≡ pos 0 → ⊥
below_sum g h i j hg hh hi hj some e =
    let k = ring
    (plus (times (at 2) (minus (num (pos 0)) (at 0)))
    (times (at 3) (minus (num (pos 0)) (at 1))))
    (minus (num (pos 0)) (plus (times (at 2) (at 0)) (times (at 3) (at 1))))
    (vars (g ∷ h ∷ i ∷ j ∷ [])) refl in
    above_sum (pos 0 -ℤ g) (pos 0 -ℤ h) i j (omega (arith, ints, hg))
    (omega (arith, ints, hh)) hi hj some (omega (arith, ints, k, e))

pub aside_apart : (s t : Edge) → IsAside s t → edges.Disjoint s t
aside_apart s t aside z Z on_s on_t =
    let b = balanced s t z Z (on_line s z on_s) on_t in
    elim aside [
      | inl h ↦ above_sum _ _ b.i b.j h.0 h.1 b.i_least b.j_least b.some b.zero
      | inr h ↦ below_sum _ _ b.i b.j h.0 h.1 b.i_least b.j_least b.some b.zero
    ]

pub apart_back : (s t : Edge) → edges.Disjoint t s → edges.Disjoint s t
apart_back s t h z Z on_s on_t = h z Z on_t on_s
