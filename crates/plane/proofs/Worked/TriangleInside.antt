-- The inside of the triangle is not outer.
-- A label that openings keep tells its cell from the first one.
use Rattle.std.proofs.Common.{◌≡◌, ℕ, zero, suc, ◌+◌, ◌<◌, ◌≤◌, inl, inr, length, pos, refl, arith}
use Rattle.std.proofs.Common.{ap, sym, ◌∙◌}
use Rattle.std.proofs.lemmas.Int.{ints}
use Rattle.plane.specs.Forms.Vectors.{Vector, point, side, On}
use Rattle.plane.specs.Faces.Replays.{Replay, replay, IsOffEdges}
use Rattle.plane.specs.Faces.Cells.{Sector, sector, corner, Opens}
use Rattle.plane.proofs.Strips.OuterWords.{IsOuterByEdges}
use Rattle.plane.proofs.Strips.OneStrip.{linked_keeps}
use Rattle.plane.proofs.Strips.Outer.{outer_linked}
use Rattle.plane.proofs.Runs.Numbered.{swept_run}
use Rattle.plane.proofs.Runs.Lawful.{swept_lawful}
use Rattle.plane.proofs.Worked.Triangle.{at_point, edge, steps, each_edge, triangle_swept, inside}

abbrev triangle : Replay
triangle = replay (pos 4) 3 edge steps

abbrev middle : Vector
middle = point (at_point (pos 2) (pos 1))

-- 1 in the two cells inside, 0 in all others
abbrev label : ℕ → ℕ → ℕ
label (suc zero) (suc zero) = 1
label (suc (suc zero)) (suc zero) = 1
label k i = 0

label_eq : (k i l j a b c : ℕ) → i ≡ a → l ≡ b → j ≡ c → label k a ≡ label b c
    → label k i ≡ label l j
label_eq k i l j a b c e f g h = ap (label k) e ∙ h ∙ sym (ap (λ x. label x j) f ∙ ap (label b) g)

low_kept : (k i l j : ℕ) → k < 3 → l ≡ suc k → i ≤ length (triangle.step k).below → j ≡ i
    → label k i ≡ label l j
low_kept zero i l j h e a b = label_eq 0 i l j 0 1 0 (omega arith) e (omega arith) refl
low_kept (suc zero) zero l j h e a b = label_eq 1 0 l j 0 2 0 refl e b refl
low_kept (suc zero) (suc zero) l j h e a b = label_eq 1 1 l j 1 2 1 refl e b refl
low_kept (suc zero) (suc (suc i)) l j h e a b = absurd (omega arith)
low_kept (suc (suc zero)) i l j h e a b = label_eq 2 i l j 0 3 0 (omega arith) e (omega arith) refl
low_kept (suc (suc (suc k))) i l j h e a b = absurd (omega arith)

high_kept : (k i l j : ℕ) → k < 3 → l ≡ suc k → i ≤ length (triangle.list k)
    → length (triangle.step k).below + length (triangle.step k).ending ≤ i
    → j + length (triangle.step k).ending ≡ i + length (triangle.step k).starting
    → label k i ≡ label l j
high_kept zero i l j h e t a b = label_eq 0 i l j 0 1 2 (omega arith) e (omega arith) refl
high_kept (suc zero) i l j h e t a b = label_eq 1 i l j 2 2 2 (omega arith) e (omega arith) refl
high_kept (suc (suc zero)) i l j h e t a b =
    label_eq 2 i l j 2 3 0 (omega arith) e (omega arith) refl
high_kept (suc (suc (suc k))) i l j h e t a b = absurd (omega arith)

kept : (c d : Sector) → Opens triangle c d → label c.strip c.index ≡ label d.strip d.index
kept c d (inl o) = low_kept c.strip c.index d.strip d.index o.fits o.next o.low o.kept
kept c d (inr o) = high_kept c.strip c.index d.strip d.index o.fits o.next o.top o.high o.kept

middle_off : IsOffEdges triangle middle
unfolding side
middle_off = each_edge (λ e. On (pos 4) (edge e) middle → ⊥)
    (λ h. let l = h.line in absurd (omega (arith, ints, l)))
    (λ h. let l = h.line in absurd (omega (arith, ints, l)))
    (λ h. let l = h.line in absurd (omega (arith, ints, l)))

middle_not_outer : IsOuterByEdges triangle middle → ⊥
middle_not_outer h =
    let l = outer_linked triangle (swept_run (pos 4) 3 edge steps triangle_swept)
    (swept_lawful (pos 4) 3 edge steps triangle_swept) middle
    (omega (arith, ints)) middle_off h in
    let e : label (sector triangle middle).strip (sector triangle middle).index
    ≡ label 0 0 =
    linked_keeps triangle (λ c. label c.strip c.index) kept (sector triangle middle) corner l in
    let i : label (sector triangle middle).strip (sector triangle middle).index
    ≡ 1 = ap (λ (c : Sector). label c.strip c.index) inside in
    let z : 1 ≡ 0 = sym i ∙ e in
    omega (arith, z)
