-- The picture of points: ends of the chord, sides of straights, triangles.
use Rattle.std.proofs.Common.{◌≡◌, ℤ, pos, ◌+ℤ◌, ◌*ℤ◌, ◌<ℤ◌, ◌≤ℤ◌, inl, inr, List, [], ◌∷◌, refl}
use Rattle.std.proofs.Common.{arith, ap, ◌∙◌, subst, sym}
use Rattle.std.proofs.lemmas.Int.{ints, by_lt_z}
use Rattle.plane.specs.declared.kinds.Point.{Point}
use Rattle.plane.specs.Forms.Vectors.{Vector, Place, Same, point, mix, side}
use Rattle.plane.specs.Forms.Arcs.{HalfArc, wide, tall, bend, chord, along, bow, seen}
use Rattle.plane.specs.Tubes.Caps.{Cap, IsCap, cap}
use Rattle.plane.proofs.Caps.CapWords.{IsOver}
use Rattle.plane.specs.Tubes.Bays.{mean, InTriangle, Bay, InBays, InGaps, InTube, outward}
use Rattle.plane.specs.Tubes.CapStrips.{line}
use Rattle.plane.specs.Tubes.Regions.{seen_point, seen_bays}
use Rattle.plane.proofs.Linear.Signs.{mix_place}
use Rattle.plane.proofs.Algebra.Ring.{Expr, at, num, plus, minus, times, vars, ring}
use Rattle.plane.proofs.Caps.CapOver.{over_mix, over_same}
use Rattle.plane.proofs.Caps.Seen.{seen-mix, seen_same, seen_only}
use Rattle.plane.proofs.Linear.Clear.{vector_eq}

-- ---- the ends of the chord
pub along-from : (h : HalfArc) → along h (point h.from) ≡ pos 0
unfolding along
along-from h =
    ring (plus (times (at 0) (minus (at 2) (times (at 2) (num (pos 1)))))
    (times (at 1) (minus (at 3) (times (at 3) (num (pos 1)))))) (num (pos 0))
    (vars (wide h ∷ tall h ∷ h.from.x ∷ h.from.y ∷ [])) refl

pub along-to : (h : HalfArc) → along h (point h.to) ≡ chord h
unfolding along chord
along-to h =
    let W = minus (at 2) (at 0) in let T = minus (at 3) (at 1) in
    ring (plus (times W (minus (at 2) (times (at 0) (num (pos 1)))))
    (times T (minus (at 3) (times (at 1) (num (pos 1)))))) (plus (times W W) (times T T))
    (vars (h.from.x ∷ h.from.y ∷ h.to.x ∷ h.to.y ∷ [])) refl

pub bow-from : (h : HalfArc) → bow h (point h.from) ≡ pos 0
unfolding bow
bow-from h =
    ring (minus (num (pos 0))
    (times (at 4)
    (minus (times (at 0) (minus (at 3) (times (at 3) (num (pos 1)))))
    (times (at 1) (minus (at 2) (times (at 2) (num (pos 1)))))))) (num (pos 0))
    (vars (wide h ∷ tall h ∷ h.from.x ∷ h.from.y ∷ bend h ∷ [])) refl

pub bow-to : (h : HalfArc) → bow h (point h.to) ≡ pos 0
unfolding bow
bow-to h =
    let W = minus (at 2) (at 0) in let T = minus (at 3) (at 1) in
    ring (minus (num (pos 0))
    (times (at 4)
    (minus (times W (minus (at 3) (times (at 1) (num (pos 1)))))
    (times T (minus (at 2) (times (at 0) (num (pos 1)))))))) (num (pos 0))
    (vars (h.from.x ∷ h.from.y ∷ h.to.x ∷ h.to.y ∷ bend h ∷ [])) refl

-- ---- the side of a straight
pub side-seen : (h : HalfArc) (p q z : Point)
    → side (line (seen_point h p) (seen_point h q)) (point (seen_point h z))
    ≡ chord h *ℤ outward h p q z
unfolding side along bow chord outward
side-seen h p q z =
    let W = at 0 in let T = at 1 in let D = at 2 in let AX = at 3 in let AY = at 4 in
    let one = num (pos 1) in
    let zero = num (pos 0) in
    let S : Expr → Expr
    → Expr = λ x y. plus (times W (minus x (times AX one)))
    (times T (minus y (times AY one))) in
    let G : Expr → Expr
    → Expr = λ x y. minus zero
    (times D (minus (times W (minus y (times AY one))) (times T (minus x (times AX one))))) in
    let PX = at 5 in
    let PY = at 6 in let QX = at 7 in let QY = at 8 in let X = at 9 in let Y = at 10 in
    ring (minus (times (minus (S QX QY) (S PX PY)) (minus (G X Y) (times (G PX PY) one)))
    (times (minus (G QX QY) (G PX PY)) (minus (S X Y) (times (S PX PY) one))))
    (times (plus (times W W) (times T T))
    (minus zero (times D
    (minus (times (minus QX PX) (minus Y PY)) (times (minus QY PY) (minus X PX))))))
    (vars (wide h ∷ tall h ∷ bend h ∷ h.from.x ∷ h.from.y ∷ p.x ∷ p.y ∷ q.x ∷ q.y ∷ z.x ∷ z.y ∷ []))
    refl

-- ---- triangles
pub mean-mix : (i : ℤ) (p : Vector) (j : ℤ) (q : Vector) (k : ℤ) (r : Vector)
    → mix (pos 1) (mix i p j q) k r ≡ mean i p j q k r
mean-mix i p j q k r =
    vector_eq _ _ (one i p.x j q.x k r.x) (one i p.y j q.y k r.y) (one i p.n j q.n k r.n)
  where
    one : (i x j y k z : ℤ)
        → (pos 1 *ℤ ((i *ℤ x) +ℤ (j *ℤ y))) +ℤ (k *ℤ z) ≡ ((i *ℤ x) +ℤ (j *ℤ y)) +ℤ (k *ℤ z)
    one i x j y k z =
        let m = plus (times (at 0) (at 1)) (times (at 2) (at 3)) in
        ring (plus (times (num (pos 1)) m) (times (at 4) (at 5))) (plus m (times (at 4) (at 5)))
        (vars (i ∷ x ∷ j ∷ y ∷ k ∷ z ∷ [])) refl

seen-mean : (h : HalfArc) (i : ℤ) (p : Vector) (j : ℤ) (q : Vector) (k : ℤ) (r : Vector)
    → seen h (mean i p j q k r) ≡ mean i (seen h p) j (seen h q) k (seen h r)
seen-mean h i p j q k r =
    ap (λ (v : Vector). seen h v) (sym (mean-mix i p j q k r))
    ∙ seen-mix h (pos 1) (mix i p j q) k r
    ∙ ap (λ (v : Vector). mix (pos 1) v k (seen h r)) (seen-mix h i p j q)
    ∙ mean-mix i (seen h p) j (seen h q) k (seen h r)

pub triangle_seen : (h : HalfArc) (z p q r : Vector) → InTriangle z p q r
    → InTriangle (seen h z) (seen h p) (seen h q) (seen h r)
triangle_seen h z p q r t = record {
  i = t.i;
  j = t.j;
  k = t.k;
  i_least = t.i_least;
  j_least = t.j_least;
  k_least = t.k_least;
  some = t.some;
  is = subst (λ (v : Vector). Same (seen h z) v) (seen-mean h t.i p t.j q t.k r)
      (seen_same h z (mean t.i p t.j q t.k r) t.is);
}

pub triangle_only : (h : HalfArc) (z p q r : Vector) → IsCap (cap h)
    → InTriangle (seen h z) (seen h p) (seen h q) (seen h r) → InTriangle z p q r
triangle_only h z p q r hc t = record {
  i = t.i;
  j = t.j;
  k = t.k;
  i_least = t.i_least;
  j_least = t.j_least;
  k_least = t.k_least;
  some = t.some;
  is = seen_only h z (mean t.i p t.j q t.k r) hc
      (subst (λ (v : Vector). Same (seen h z) v) (sym (seen-mean h t.i p t.j q t.k r)) t.is);
}

-- the tube on the picture
pub tube_only : (h : HalfArc) (v : Point) (bs : List Bay) (z : Vector) → IsCap (cap h)
    → InTube (seen_point h v) (seen_bays h bs) (seen h z) → InTube v bs z
tube_only h v bs z hc (inl t) = inl (bays_only v bs t)
  where
    bays_only : (v : Point) (bs : List Bay) → InBays (seen_point h v) (seen_bays h bs) (seen h z)
        → InBays v bs z
    bays_only v [] t = t
    bays_only v (b ∷ rest) (inl t) =
        inl (triangle_only h z (point v) (point b.inner) (point b.outer) hc t)
    bays_only v (b ∷ rest) (inr t) = inr (bays_only b.inner rest t)
tube_only h v bs z hc (inr t) = inr (gaps_only bs t)
  where
    gaps_only : (bs : List Bay) → InGaps (seen_bays h bs) (seen h z) → InGaps bs z
    gaps_only [] t = t
    gaps_only (b ∷ []) t = t
    gaps_only (b ∷ (d ∷ rest)) (inl t) =
        inl (triangle_only h z (point b.inner) (point b.outer) (point d.outer) hc t)
    gaps_only (b ∷ (d ∷ rest)) (inr t) = inr (gaps_only (d ∷ rest) t)

pub tube_seen : (h : HalfArc) (v : Point) (bs : List Bay) (z : Vector) → InTube v bs z
    → InTube (seen_point h v) (seen_bays h bs) (seen h z)
tube_seen h v bs z (inl t) = inl (bays_seen v bs t)
  where
    bays_seen : (v : Point) (bs : List Bay) → InBays v bs z
        → InBays (seen_point h v) (seen_bays h bs) (seen h z)
    bays_seen v [] t = t
    bays_seen v (b ∷ rest) (inl t) =
        inl (triangle_seen h z (point v) (point b.inner) (point b.outer) t)
    bays_seen v (b ∷ rest) (inr t) = inr (bays_seen b.inner rest t)
tube_seen h v bs z (inr t) = inr (gaps_seen bs t)
  where
    gaps_seen : (bs : List Bay) → InGaps bs z → InGaps (seen_bays h bs) (seen h z)
    gaps_seen [] t = t
    gaps_seen (b ∷ []) t = t
    gaps_seen (b ∷ (d ∷ rest)) (inl t) =
        inl (triangle_seen h z (point b.inner) (point b.outer) (point d.outer) t)
    gaps_seen (b ∷ (d ∷ rest)) (inr t) = inr (gaps_seen (d ∷ rest) t)

-- ---- a triangle whose corners are over the circle's lower part
pub over_triangle : (c : Cap) (z p q r : Vector) → IsCap c → Place z → Place p → Place q → Place r
    → IsOver c p → IsOver c q → IsOver c r → InTriangle z p q r → IsOver c z
over_triangle c z p q r hc hz hp hq hr op oq or_ t =
    by_lt_z (pos 0) (t.i +ℤ t.j)
    (λ (k : pos 0 <ℤ (t.i +ℤ t.j)).
    let m = mix t.i p t.j q in
    let hm = mix_place t.i p t.j q hp hq t.i_least t.j_least k in
    let om = over_mix c t.i p t.j q hc hp hq t.i_least t.j_least k op oq in
    let one : pos 0 ≤ℤ pos 1 = omega (arith, ints) in
    let kl = t.k_least in
    let some : pos 0 <ℤ (pos 1 +ℤ t.k) = omega (arith, ints, kl) in
    at_mix (mix (pos 1) m t.k r) (mean-mix t.i p t.j q t.k r)
    (mix_place (pos 1) m t.k r hm hr one kl some)
    (over_mix c (pos 1) m t.k r hc hm hr one kl some om or_))
    (λ (k : (t.i +ℤ t.j) ≤ℤ pos 0).
    let il = t.i_least in
    let jl = t.j_least in
    let s = t.some in
    let zero : pos 0 ≤ℤ pos 0 = omega (arith, ints) in
    let kl = t.k_least in
    let some : pos 0 <ℤ (pos 0 +ℤ t.k) = omega (arith, ints, k, s) in
    let i0 : t.i ≡ pos 0 = omega (arith, ints, k, il, jl) in
    let j0 : t.j ≡ pos 0 = omega (arith, ints, k, il, jl) in
    at_mix (mix (pos 0) p t.k r) (rest i0 j0) (mix_place (pos 0) p t.k r hp hr zero kl some)
    (over_mix c (pos 0) p t.k r hc hp hr zero kl some op or_))
  where
    at_mix : (m : Vector) → m ≡ mean t.i p t.j q t.k r → Place m → IsOver c m → IsOver c z
    at_mix m e hm om = over_same c z m hz hm (subst (λ (v : Vector). Same z v) (sym e) t.is) om

    one_rest : (x y w : ℤ) → t.i ≡ pos 0 → t.j ≡ pos 0
        → (pos 0 *ℤ x) +ℤ (t.k *ℤ w) ≡ ((t.i *ℤ x) +ℤ (t.j *ℤ y)) +ℤ (t.k *ℤ w)
    one_rest x y w a b =
        let u = ap (λ (v : ℤ). v *ℤ x) a in
        let v = ap (λ (v : ℤ). v *ℤ y) b in
        omega (arith, ints, u, v)

    rest : t.i ≡ pos 0 → t.j ≡ pos 0 → mix (pos 0) p t.k r ≡ mean t.i p t.j q t.k r
    rest a b = vector_eq _ _ (one_rest p.x q.x r.x a b) (one_rest p.y q.y r.y a b)
        (one_rest p.n q.n r.n a b)
