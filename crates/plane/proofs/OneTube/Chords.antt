-- Where an inner corner of a tube does not stand over the chord, a place of the chord strictly
-- between its ends is in the tube.
use Rattle.std.proofs.Common.{◌≡◌, ◌⊎◌, inl, inr, List, [], ◌∷◌, ℤ, pos, ◌+ℤ◌, ◌*ℤ◌, ◌-ℤ◌, ◌<ℤ◌}
use Rattle.std.proofs.Common.{◌≤ℤ◌, refl, arith, ap, sym, ◌∙◌, subst}
use Rattle.std.proofs.lemmas.Int.{ints}
use Rattle.plane.specs.declared.kinds.Point.{Point}
use Rattle.plane.specs.Lists.{Has}
use Rattle.plane.specs.Forms.Vectors.{Vector, Place, Same, Between, mix, point}
use Rattle.plane.specs.Forms.Arcs.{HalfArc, chord, power, along, bow}
use Rattle.plane.specs.Tubes.Bays.{Bay, InTube, IsTube}
use Rattle.plane.proofs.Algebra.Laws.{product_positive}
use Rattle.plane.proofs.Algebra.Ring.{at, num, plus, minus, times, vars, ring}
use Rattle.plane.proofs.Linear.Signs.{mix_between}
use Rattle.plane.proofs.Caps.Seen.{seen-mix, seen_same}
use Rattle.plane.proofs.Caps.Pictures.{along-from, along-to, bow-from, bow-to}
use Rattle.plane.proofs.Caps.Powers.{power-to}
use Rattle.plane.proofs.OneTube.TubeStrips.{IsRest, rest_of, before_end, tube_rest}
use Rattle.plane.proofs.OneTube.TubeEdges.{chord_in_tube}

-- ---- an inner corner stands strictly between the ends, or is the last one
pub inner_after : (h : HalfArc) (p : Point) (c : Bay) (rest : List Bay) (b : Bay)
    → IsRest h p c rest → Has b (c ∷ rest) → along h (point p) <ℤ along h (point b.inner)
inner_after h p c rest b r (inl e) =
    let up = r.are_bays.0.up in let on = r.are_bays.0.on in
    subst (λ (x : Bay). along h (point p) <ℤ along h (point x.inner)) (sym e)
    (omega (arith, ints, up, on))
inner_after h p c [] b r (inr m) = absurd m
inner_after h p c (d ∷ rest) b r (inr m) =
    let up = r.are_bays.0.up in let on = r.are_bays.0.on in
    let k = inner_after h c.inner d rest b (rest_of h p c d rest r) m in
    omega (arith, ints, up, on, k)

pub inner_before : (h : HalfArc) (p : Point) (c : Bay) (rest : List Bay) (b : Bay)
    → IsRest h p c rest → Has b (c ∷ rest) → (b.inner ≡ h.to) ⊎ (along h (point b.inner) <ℤ chord h)
inner_before h p c [] b r (inl e) = inl (ap (λ (x : Bay). x.inner) e ∙ r.ends)
inner_before h p c [] b r (inr m) = absurd m
inner_before h p c (d ∷ rest) b r (inl e) =
    let s = rest_of h p c d rest r in
    let up = s.are_bays.0.up in let on = s.are_bays.0.on in
    let k = before_end h c.inner d rest s in
    inr (subst (λ (x : Bay). along h (point x.inner) <ℤ chord h) (sym e)
    (omega (arith, ints, up, on, k)))
inner_before h p c (d ∷ rest) b r (inr m) =
    inner_before h c.inner d rest b (rest_of h p c d rest r) m

-- ---- the chord's place over the corner
pub record IsInnerPlace (h : HalfArc) (bs : List Bay) (z : Vector) : Type 0 where
  pub place : Place z
  pub between : Between z (point h.from) (point h.to)
  pub there : InTube h.from bs z
  pub low : pos 0 <ℤ along h z
  pub high : along h z <ℤ (chord h *ℤ z.n)

-- a place of the chord
chord_place : (l k : ℤ) → ((l -ℤ k) *ℤ pos 1) +ℤ (k *ℤ pos 1) ≡ l
chord_place l k = omega (arith, ints)

chord_along : (l k a b : ℤ) → a ≡ pos 0 → b ≡ l → ((l -ℤ k) *ℤ a) +ℤ (k *ℤ b) ≡ k *ℤ l
chord_along l k a b e f = (λ i. ((l -ℤ k) *ℤ e i) +ℤ (k *ℤ f i))
    ∙ ring (plus (times (minus (at 0) (at 1)) (num (pos 0))) (times (at 1) (at 0)))
    (times (at 1) (at 0)) (vars (l ∷ k ∷ [])) refl

chord_bow : (l k a b : ℤ) → a ≡ pos 0 → b ≡ pos 0 → ((l -ℤ k) *ℤ a) +ℤ (k *ℤ b) ≡ pos 0
chord_bow l k a b e f = (λ i. ((l -ℤ k) *ℤ e i) +ℤ (k *ℤ f i))
    ∙ ring (plus (times (minus (at 0) (at 1)) (num (pos 0))) (times (at 1) (num (pos 0))))
    (num (pos 0)) (vars (l ∷ k ∷ [])) refl

pub low_corner_place : (h : HalfArc) (bs : List Bay) (b : Bay) → IsTube h bs → Has b bs
    → power h (point b.inner) <ℤ pos 0 → bow h (point b.inner) ≤ℤ pos 0
    → (z : Vector) × IsInnerPlace h bs z
low_corner_place h [] b t m inside low = absurd m
low_corner_place h (c ∷ rest) b t m inside low =
    let bs = c ∷ rest in
    let l = chord h in
    let k = along h (point b.inner) in
    let r = tube_rest h c rest t in
    let f = along-from h in
    let first : pos 0 <ℤ k = let x = inner_after h h.from c rest b r m in
    omega (arith, ints, x, f) in
    let last : k <ℤ l = elim (inner_before h h.from c rest b r m) [
      | inl e ↦ let x = ap (λ (p : Point). power h (point p)) e in let y = power-to h in
          absurd (omega (arith, ints, x, y, inside))
      | inr x ↦ x
    ] in
    let z = mix (l -ℤ k) (point h.from) k (point h.to) in
    let n : z.n ≡ l = chord_place l k in
    let Z : Place z = omega (arith, ints, n, first, last) in
    let picture = seen-mix h (l -ℤ k) (point h.from) k (point h.to) in
    let x : along h z ≡ k *ℤ l = ap (λ (v : Vector). v.x) picture
    ∙ chord_along l k (along h (point h.from)) (along h (point h.to)) f (along-to h) in
    let y : bow h z ≡ pos 0 = ap (λ (v : Vector). v.y) picture
    ∙ chord_bow l k (bow h (point h.from)) (bow h (point h.to)) (bow-from h) (bow-to h) in
    let positive = product_positive k l first (omega (arith, ints, first, last)) in
    let above = product_positive (l -ℤ k) l (omega (arith, ints, last))
    (omega (arith, ints, first, last)) in
    let i = ring (times (minus (at 0) (at 1)) (at 0))
    (minus (times (at 0) (at 0)) (times (at 1) (at 0))) (vars (l ∷ k ∷ [])) refl in
    let ln : l *ℤ z.n ≡ l *ℤ l = ap (λ (v : ℤ). l *ℤ v) n in
    let kn : k *ℤ z.n ≡ k *ℤ l = ap (λ (v : ℤ). k *ℤ v) n in
    let low_z : pos 0 <ℤ along h z = omega (arith, ints, x, positive) in
    let high_z : along h z <ℤ (chord h *ℤ z.n) = omega (arith, ints, x, above, i, ln) in (
      z,
      record {
        place = Z;
        between = mix_between (l -ℤ k) (point h.from) k (point h.to) (omega (arith, ints, last))
            (omega (arith, ints, first)) (omega (arith, ints, first, last));
        there = chord_in_tube h bs b z t Z m y (record {
          low = omega (arith, ints, low_z);
          high = omega (arith, ints, high_z);
        }) (x ∙ sym kn) low;
        low = low_z;
        high = high_z;
      },
    )

-- such a place is no end of the half arc
pub inner_no_end : (h : HalfArc) (bs : List Bay) (z : Vector) → IsInnerPlace h bs z
    → Same z (point h.from) ⊎ Same z (point h.to) → ⊥
inner_no_end h bs z i (inl s) =
    let e = (seen_same h z (point h.from) s).x in let f = along-from h in let l = i.low in
    let g = ap (λ (v : ℤ). v *ℤ z.n) f in
    omega (arith, ints, e, f, g, l)
inner_no_end h bs z i (inr s) =
    let e = (seen_same h z (point h.to) s).x in let f = along-to h in let l = i.high in
    let g = ap (λ (v : ℤ). v *ℤ z.n) f in
    omega (arith, ints, e, f, g, l)
