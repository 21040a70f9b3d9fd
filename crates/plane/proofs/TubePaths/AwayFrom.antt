-- Away from a place that is not outside a half arc's circle, all stays outside; and paths that stay
-- where P holds.
use Rattle.std.proofs.Common.{◌≡◌, [], ◌∷◌, ℤ, pos, ◌+ℤ◌, ◌*ℤ◌, ◌<ℤ◌, ◌≤ℤ◌, refl, arith, ap, sym}
use Rattle.std.proofs.Common.{◌∙◌, subst}
use Rattle.std.proofs.lemmas.Int.{ints, by_lt_z}
use Rattle.plane.specs.Forms.Vectors.{Vector, Place, Same, mix}
use Rattle.plane.specs.Forms.Arcs.{HalfArc, power}
use Rattle.plane.specs.Tubes.Caps.{IsCap, cap}
use Rattle.plane.proofs.TubePaths.PieceWords.{PathIn, stays, goes}
use Rattle.plane.proofs.Algebra.Laws.{product_nonnegative}
use Rattle.plane.proofs.Linear.Signs.{mix_place}
use Rattle.plane.proofs.Covers.SamePlace.{same_sym}
use Rattle.plane.proofs.Covers.HalfArcPlaces.{not_outside_same}
use Rattle.plane.proofs.TubePaths.WaysOut.{way_back}
use Rattle.plane.proofs.HalfArcs.ArcSides.{not_outside_mix}
use Rattle.plane.proofs.Algebra.Ring.{at, plus, times, vars, ring}

-- ---- paths
pub path_more : (P Q : Vector → Type 0) → ((z : Vector) → P z → Q z) → (p q : Vector) → PathIn P p q
    → PathIn Q p q
path_more P Q f _ _ (stays p q e) = stays p q e
path_more P Q f _ _ (goes p x q X h j) = goes p x q X (λ z w. f z (h z w)) (path_more P Q f x q j)

pub path_on : (P : Vector → Type 0) (p q v : Vector) → PathIn P p q → PathIn P q v → PathIn P p v
path_on P _ _ v (stays p q e) k = subst (λ (x : Vector). PathIn P x v) (sym e) k
path_on P _ _ v (goes p x q X h j) k = goes p x v X h (path_on P x q v j k)

pub path_turned : (P : Vector → Type 0) (p q : Vector) → Place p → PathIn P p q → PathIn P q p
path_turned P _ _ Z (stays p q e) = stays q p (sym e)
path_turned P _ _ Z (goes p x q X h j) =
    path_on P q x p (path_turned P x q X j)
    (goes x p p Z (λ z w. h z (way_back x p z w)) (stays p p refl))

-- z is a positive number of times v
abbrev pub Times : ℤ → Vector → Vector → Type 0
Times k v z = (z.x ≡ k *ℤ v.x) × (z.y ≡ k *ℤ v.y) × (z.n ≡ k *ℤ v.n)

pub times_same : (k : ℤ) (v z : Vector) → Times k v z → Same z v
times_same k v z h = record { x = one z.x z.n v.x v.n h.0 h.2; y = one z.y z.n v.y v.n h.1 h.2 }
  where
    one : (x n a m : ℤ) → x ≡ k *ℤ a → n ≡ k *ℤ m → x *ℤ m ≡ a *ℤ n
    one x n a m e f = ap (λ (w : ℤ). w *ℤ m) e
        ∙ ring (times (times (at 0) (at 1)) (at 2)) (times (at 1) (times (at 0) (at 2)))
        (vars (k ∷ a ∷ m ∷ [])) refl ∙ ap (λ (w : ℤ). a *ℤ w) (sym f)

module _ (h : HalfArc) (hc : IsCap (cap h)) where
  -- ---- away from a place that is not outside
  -- z = b p + e; from z to e all is outside
  pub away_from : (p z e m : Vector) (b s t : ℤ) → Place p → Place z → Place m → power h p ≤ℤ pos 0
      → pos 0 <ℤ power h z → pos 0 ≤ℤ b → pos 0 ≤ℤ s → pos 0 ≤ℤ t
      → z.x ≡ (b *ℤ p.x) +ℤ e.x → z.y ≡ (b *ℤ p.y) +ℤ e.y → z.n ≡ (b *ℤ p.n) +ℤ e.n
      → m ≡ mix s z t e → pos 0 <ℤ power h m
  away_from p z e m b s t P Z M below over hb hs ht ex ey en em =
      by_lt_z (pos 0) (power h m) (λ l. l)
      (λ (l : power h m ≤ℤ pos 0).
      let tb = product_nonnegative t b ht hb in
      let v = mix (t *ℤ b) p (pos 1) m in
      let V : Place v = mix_place (t *ℤ b) p (pos 1) m P M tb (omega (arith, ints))
      (omega (arith, ints, tb)) in
      let k = not_outside_mix h (t *ℤ b) p (pos 1) m hc P M tb (omega (arith, ints)) below l in
      let f : Times (s +ℤ t) z v = (
        one p.x z.x e.x m.x ex (ap (λ (u : Vector). u.x) em),
        one p.y z.y e.y m.y ey (ap (λ (u : Vector). u.y) em),
        one p.n z.n e.n m.n en (ap (λ (u : Vector). u.n) em),
      ) in
      let a = not_outside_same h v z V Z (times_same (s +ℤ t) z v f) k in
      absurd (omega (arith, ints, a, over)))
    where
      one : (p z e m : ℤ) → z ≡ (b *ℤ p) +ℤ e → m ≡ (s *ℤ z) +ℤ (t *ℤ e)
          → ((t *ℤ b) *ℤ p) +ℤ (pos 1 *ℤ m) ≡ (s +ℤ t) *ℤ z
      one p z e m a c =
          let i = ap (λ (v : ℤ). t *ℤ v) a in
          let j = ring (times (at 0) (plus (times (at 1) (at 2)) (at 3)))
          (plus (times (times (at 0) (at 1)) (at 2)) (times (at 0) (at 3)))
          (vars (t ∷ b ∷ p ∷ e ∷ [])) refl in
          let k = ring (times (plus (at 0) (at 1)) (at 2))
          (plus (times (at 0) (at 2)) (times (at 1) (at 2))) (vars (s ∷ t ∷ z ∷ [])) refl in
          omega (arith, ints, i, j, k, c)

  -- z = e + c o with e not outside; from z to o all is outside
  pub towards : (e o z m : Vector) (c s t : ℤ) → Place e → Place z → Place m → power h e ≤ℤ pos 0
      → pos 0 <ℤ power h z → pos 0 ≤ℤ c → pos 0 ≤ℤ s → pos 0 ≤ℤ t
      → z.x ≡ e.x +ℤ (c *ℤ o.x) → z.y ≡ e.y +ℤ (c *ℤ o.y) → z.n ≡ e.n +ℤ (c *ℤ o.n)
      → m ≡ mix s z t o → pos 0 <ℤ power h m
  towards e o z m c s t E Z M below over hc0 hs ht ex ey en em =
      by_lt_z (pos 0) (power h m) (λ l. l)
      (λ (l : power h m ≤ℤ pos 0). by_lt_z (pos 0) (t +ℤ c)
      (λ (some : pos 0 <ℤ (t +ℤ c)).
      let v = mix t e c m in
      let V : Place v = mix_place t e c m E M ht hc0 some in
      let k = not_outside_mix h t e c m hc E M ht hc0 below l in
      let f : Times (t +ℤ (c *ℤ s)) z v = (
        one e.x o.x z.x m.x ex (ap (λ (u : Vector). u.x) em),
        one e.y o.y z.y m.y ey (ap (λ (u : Vector). u.y) em),
        one e.n o.n z.n m.n en (ap (λ (u : Vector). u.n) em),
      ) in
      let a = not_outside_same h v z V Z (times_same (t +ℤ (c *ℤ s)) z v f) k in
      absurd (omega (arith, ints, a, over)))
      (λ (none : (t +ℤ c) ≤ℤ pos 0).
      let zero : c ≡ pos 0 = omega (arith, ints, none, ht, hc0) in
      let f : Times (pos 1) e z = (
        two e.x o.x z.x zero ex,
        two e.y o.y z.y zero ey,
        two e.n o.n z.n zero en,
      ) in
      let a = not_outside_same h e z E Z (same_sym z e (times_same (pos 1) e z f)) below in
      absurd (omega (arith, ints, a, over))))
    where
      one : (e o z m : ℤ) → z ≡ e +ℤ (c *ℤ o) → m ≡ (s *ℤ z) +ℤ (t *ℤ o)
          → (t *ℤ e) +ℤ (c *ℤ m) ≡ (t +ℤ (c *ℤ s)) *ℤ z
      one e o z m a b =
          let i = ap (λ (v : ℤ). t *ℤ v) a in
          let j = ap (λ (v : ℤ). c *ℤ v) b in
          let k = ring (times (at 0) (plus (at 1) (times (at 2) (at 3))))
          (plus (times (at 0) (at 1)) (times (times (at 2) (at 0)) (at 3)))
          (vars (t ∷ e ∷ c ∷ o ∷ [])) refl in
          let l = ring (times (at 0) (plus (times (at 1) (at 2)) (times (at 3) (at 4))))
          (plus (times (times (at 0) (at 1)) (at 2)) (times (times (at 0) (at 3)) (at 4)))
          (vars (c ∷ s ∷ z ∷ t ∷ o ∷ [])) refl in
          let n = ring (times (plus (at 0) (times (at 1) (at 2))) (at 3))
          (plus (times (at 0) (at 3)) (times (times (at 1) (at 2)) (at 3)))
          (vars (t ∷ c ∷ s ∷ z ∷ [])) refl in
          omega (arith, ints, i, j, k, l, n)

      two : (e o z : ℤ) → c ≡ pos 0 → z ≡ e +ℤ (c *ℤ o) → z ≡ pos 1 *ℤ e
      two e o z q a = let i = ap (λ (v : ℤ). v *ℤ o) q in omega (arith, ints, a, i)
