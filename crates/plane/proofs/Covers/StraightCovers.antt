-- Curves that are apart share control points alone, and straights that share control points alone
-- are apart.
use Rattle.std.proofs.Common.{◌≡◌, ◌↔◌, ℤ, pos, ◌+ℤ◌, ◌*ℤ◌, inl, inr, List, [], ◌∷◌, refl, arith}
use Rattle.std.proofs.Common.{subst, sym}
use Rattle.std.proofs.lemmas.Int.{ints}
use Rattle.plane.specs.declared.kinds.Curve.{Curve}
use Rattle.plane.specs.declared.kinds.CurveKind.{CurveKind}
use Rattle.plane.specs.declared.kinds.CurveKind.TheVariants as kind
use Rattle.plane.specs.Forms.Vectors.{Vector, Place, Same, point, mix}
use Rattle.plane.specs.Rule.Straights.{IsOnStraight}
use Rattle.plane.specs.Rule.Curves.{IsOnKind, HitsKind, IsOn}
use Rattle.plane.specs.Rule.Triangles.{mean, InTriangle, Triangle, InSome, Covers, Apart}
use Rattle.plane.specs.Rule.Triangles.{ShareControls}
use Rattle.plane.proofs.Algebra.Ring.{Expr, at, num, plus, minus, times, vars, ring}
use Rattle.plane.proofs.Linear.EdgePlaces.{place_point}
use Rattle.plane.proofs.Covers.SamePlace.{same_sym, same_trans, segment_same, same_refl}
use Rattle.plane.proofs.Linear.Straights.{straight_between, between_straight}
use Rattle.plane.proofs.Covers.CurvePlaces.{hits_alone}

-- ---- a triangle with two corners in one place is a straight
flat_same : (z a b : Vector) (i j : ℤ) → Same z (mix i a j b) → Same z (mean i a j b (pos 0) b)
flat_same z a b i j h = record {
  x = one z.x z.n a.x a.n b.x b.n i j h.x;
  y = one z.y z.n a.y a.n b.y b.n i j h.y;
}
  where
    one : (z zn a an b bn i j : ℤ) → z *ℤ ((i *ℤ an) +ℤ (j *ℤ bn)) ≡ ((i *ℤ a) +ℤ (j *ℤ b)) *ℤ zn
        → z *ℤ (((i *ℤ an) +ℤ (j *ℤ bn)) +ℤ (pos 0 *ℤ bn))
        ≡ (((i *ℤ a) +ℤ (j *ℤ b)) +ℤ (pos 0 *ℤ b)) *ℤ zn
    one z zn a an b bn i j e =
        let m : Expr → Expr → Expr = λ a b. plus (times (at 6) a) (times (at 7) b) in
        let more : Expr → Expr → Expr = λ a b. plus (m a b) (times (num (pos 0)) b) in
        let i' = ring
        (minus (times (at 0) (more (at 3) (at 5))) (times (more (at 2) (at 4)) (at 1)))
        (minus (times (at 0) (m (at 3) (at 5))) (times (m (at 2) (at 4)) (at 1)))
        (vars (z ∷ zn ∷ a ∷ an ∷ b ∷ bn ∷ i ∷ j ∷ [])) refl in
        omega (arith, ints, i', e)

same_flat : (z a b : Vector) (i j k : ℤ) → Same z (mean i a j b k b) → Same z (mix i a (j +ℤ k) b)
same_flat z a b i j k h = record {
  x = one z.x z.n a.x a.n b.x b.n i j k h.x;
  y = one z.y z.n a.y a.n b.y b.n i j k h.y;
}
  where
    one : (z zn a an b bn i j k : ℤ)
        → z *ℤ (((i *ℤ an) +ℤ (j *ℤ bn)) +ℤ (k *ℤ bn)) ≡ (((i *ℤ a) +ℤ (j *ℤ b)) +ℤ (k *ℤ b)) *ℤ zn
        → z *ℤ ((i *ℤ an) +ℤ ((j +ℤ k) *ℤ bn)) ≡ ((i *ℤ a) +ℤ ((j +ℤ k) *ℤ b)) *ℤ zn
    one z zn a an b bn i j k e =
        let m : Expr → Expr → Expr = λ a b. plus (times (at 6) a) (times (plus (at 7) (at 8)) b) in
        let three : Expr → Expr
        → Expr = λ a b. plus (plus (times (at 6) a) (times (at 7) b)) (times (at 8) b) in
        let f = ring (minus (times (at 0) (m (at 3) (at 5))) (times (m (at 2) (at 4)) (at 1)))
        (minus (times (at 0) (three (at 3) (at 5))) (times (three (at 2) (at 4)) (at 1)))
        (vars (z ∷ zn ∷ a ∷ an ∷ b ∷ bn ∷ i ∷ j ∷ k ∷ [])) refl in
        omega (arith, ints, f, e)

pub on_flat : (z a b : Vector) → Place z → Place a → Place b → IsOnStraight a b z
    → InTriangle z a b b
on_flat z a b Z A B on =
    let h = straight_between a b z A B Z on in
    let some = h.some in
    record {
      i = h.s;
      j = h.t;
      k = pos 0;
      i_least = h.s_least;
      j_least = h.t_least;
      k_least = omega (arith, ints);
      some = omega (arith, ints, some);
      is = flat_same z a b h.s h.t h.is;
    }

pub flat_on : (z a b : Vector) → Place z → Place a → Place b → InTriangle z a b b
    → IsOnStraight a b z
flat_on z a b Z A B h =
    let j = h.j_least in let k = h.k_least in let some = h.some in
    between_straight a b z A B Z (record {
      s = h.i;
      t = h.j +ℤ h.k;
      s_least = h.i_least;
      t_least = omega (arith, ints, j, k);
      some = omega (arith, ints, some);
      is = same_flat z a b h.i h.j h.k h.is;
    })

-- ---- the cover of a straight by one such triangle
pub flat : Curve → Triangle
flat c = record {
  a = point c.from;
  b = point c.to;
  c = point c.to;
  a_place = place_point c.from;
  b_place = place_point c.to;
  c_place = place_point c.to;
}

pub in_flat : (c : Curve) (z : Vector) → Place z → InSome (flat c ∷ []) z
    → IsOnStraight (point c.from) (point c.to) z
unfolding flat
in_flat c z Z (t, inl e, h) =
    flat_on z (point c.from) (point c.to) Z (place_point c.from) (place_point c.to)
    (subst (λ (t : Triangle). InTriangle z t.a t.b t.c) e h)
in_flat c z Z (t, inr e, h) = absurd e

pub flat_covers : (c : Curve) → c.kind ≡ kind.Straight → Covers (flat c ∷ []) c
unfolding flat
flat_covers c e p q P Q hit =
    let h = subst (λ (k : CurveKind). HitsKind k c p q) e hit in (
      h.z,
      h.place,
      h.of_segment,
      (
        flat c,
        inl refl,
        on_flat h.z (point c.from) (point c.to) h.place (place_point c.from)
            (place_point c.to) h.of_curve,
      ),
    )

straights_apart : (c d : Curve) → c.kind ≡ kind.Straight → d.kind ≡ kind.Straight
    → ShareControls c d → Apart c d
straights_apart c d e f h = record {
  first = flat c ∷ [];
  second = flat d ∷ [];
  first_covers = flat_covers c e;
  second_covers = flat_covers d f;
  apart = λ z Z i j. h z Z (subst (λ (k : CurveKind). IsOnKind k c z) (sym e) (in_flat c z Z i))
      (subst (λ (k : CurveKind). IsOnKind k d z) (sym f) (in_flat d z Z j));
}

-- ---- whatever the covers, a common place lies in both
moved : (z m : Vector) (t : Triangle) → Place z → Same m z → InTriangle z t.a t.b t.c
    → InTriangle m t.a t.b t.c
moved z m t Z h i = record {
  i = i.i;
  j = i.j;
  k = i.k;
  i_least = i.i_least;
  j_least = i.j_least;
  k_least = i.k_least;
  some = i.some;
  is = same_trans m z (mean i.i t.a i.j t.b i.k t.c) Z h i.is;
}

pub covered_place : (ts : List Triangle) (c : Curve) → Covers ts c → (z : Vector) → Place z
    → IsOn c z → InSome ts z
covered_place ts c cover z Z on =
    let (m, M, of_segment, (t, has, i)) = cover z z Z Z ((hits_alone c z Z).1 on) in
    (t, has, moved m z t M (same_sym m z (segment_same z z m Z Z M (same_refl z) of_segment)) i)

pub apart_controls : (c d : Curve) → Apart c d → ShareControls c d
apart_controls c d h z Z on_c on_d =
    h.apart z Z (covered_place h.first c h.first_covers z Z on_c)
    (covered_place h.second d h.second_covers z Z on_d)

pub straights_apart_is : (c d : Curve) → c.kind ≡ kind.Straight → d.kind ≡ kind.Straight
    → Apart c d ↔ ShareControls c d
straights_apart_is c d e f = ((λ h. apart_controls c d h), (λ h. straights_apart c d e f h))
