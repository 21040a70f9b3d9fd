-- A tube is a strip on its half arc's picture, and all its corners are over the circle's lower
-- part.
use Rattle.std.proofs.Common.{◌≡◌, ℤ, pos, ◌<ℤ◌, ◌≤ℤ◌, ◌⊎◌, inl, inr, List, [], ◌∷◌, refl, arith}
use Rattle.std.proofs.Common.{ap, ◌∙◌, subst, sym}
use Rattle.std.proofs.lemmas.Int.{ints}
use Rattle.plane.specs.declared.kinds.Point.{Point}
use Rattle.plane.specs.Forms.Vectors.{Vector, Place, point}
use Rattle.plane.specs.Lists.{Each, Last, Neighbours}
use Rattle.plane.specs.Forms.Arcs.{HalfArc, chord, power, along, bow, seen}
use Rattle.plane.specs.Tubes.Caps.{IsCap, shape, InSlab, cap}
use Rattle.plane.proofs.Caps.CapWords.{IsOver}
use Rattle.plane.specs.Tubes.Bays.{Bay, InBays, InGaps, InTube, IsBay, AreBays, AreNext, IsTube}
use Rattle.plane.specs.Tubes.Bays.{outward, ahead_of_to}
use Rattle.plane.proofs.Caps.StripWords.{IsFence, IsArch, IsDip, IsCapStrip}
use Rattle.plane.proofs.Algebra.Laws.{product_positive}
use Rattle.plane.proofs.Caps.CapOver.{times_below}
use Rattle.plane.proofs.Caps.Seen.{shape_below, shape_most, cap_is}
use Rattle.plane.proofs.Caps.Signed.{over_away}
use Rattle.plane.specs.Tubes.Regions.{seen_point, seen_bay, seen_bays}
use Rattle.plane.proofs.Caps.Pictures.{along-from, along-to, bow-from, bow-to, side-seen}
use Rattle.plane.proofs.Caps.Pictures.{over_triangle, triangle_seen}
use Rattle.plane.proofs.Caps.Powers.{far_least, power-from, power-to, power-ahead_of_to}
use Rattle.plane.proofs.Caps.Powers.{fence_first, fence_last, fence_next}
use Rattle.plane.proofs.Caps.CapRaised.{raised_over}

-- ---- from one inner corner on: what the conditions say
pub record IsRest (h : HalfArc) (p : Point) (b : Bay) (rest : List Bay) : Type 0 where
  pub are_bays : AreBays h p (b ∷ rest)
  pub are_next : Neighbours (AreNext h) (b ∷ rest)
  pub ends : Last (λ b. b.inner ≡ h.to) (b ∷ rest)
  pub inside : Each (λ b. (power h (point b.inner) <ℤ pos 0) ⊎ (b.inner ≡ h.to)) (b ∷ rest)
  pub last_clear : Last (λ b. ahead_of_to h b.outer ≤ℤ pos 0) (b ∷ rest)

pub rest_of : (h : HalfArc) (p : Point) (b d : Bay) (rest : List Bay) → IsRest h p b (d ∷ rest)
    → IsRest h b.inner d rest
rest_of h p b d rest r = record {
  are_bays = r.are_bays.1;
  are_next = r.are_next.1;
  ends = r.ends;
  inside = r.inside.1;
  last_clear = r.last_clear;
}

along_end : (h : HalfArc) (v : Point) → v ≡ h.to → along h (point v) ≡ chord h
along_end h v e = ap (λ (u : Point). along h (point u)) e ∙ along-to h

-- the corners are before the end of the chord
pub before_end : (h : HalfArc) (p : Point) (b : Bay) (rest : List Bay) → IsRest h p b rest
    → along h (point b.inner) ≤ℤ chord h
before_end h p b [] r = let e = along_end h b.inner r.ends in omega (arith, ints, e)
before_end h p b (d ∷ rest) r =
    let k = before_end h b.inner d rest (rest_of h p b d rest r) in
    let bay = r.are_bays.1.0 in
    let u = bay.up in
    let v = bay.on in
    omega (arith, ints, k, u, v)

-- the outer corners are not inside
outer_least : (h : HalfArc) (p : Point) (b : Bay) (rest : List Bay) → IsRest h p b rest
    → pos 0 ≤ℤ power h (point b.outer)
outer_least h p b [] r =
    let e = power-ahead_of_to h b.outer in
    let d = far_least h b.outer h.to in
    let k = r.last_clear in
    omega (arith, ints, e, d, k)
outer_least h p b (d ∷ rest) r =
    let k = r.are_next.0.first_far in
    let d = far_least h b.outer d.outer in
    omega (arith, ints, k, d)

-- ---- the corners are over the lower part
abbrev pub Corner : HalfArc → Point → Type 0
Corner h v = IsOver (cap h) (point (seen_point h v))

slab_point : (h : HalfArc) (v : Point) → pos 0 ≤ℤ along h (point v) → along h (point v) ≤ℤ chord h
    → InSlab (cap h) (point (seen_point h v))
slab_point h v a b = record { low = a; high = omega (arith, ints, b) }

from_over : (h : HalfArc) → IsCap (cap h) → Corner h h.from
from_over h hc =
    let e = along-from h in
    let g = bow-from h in
    let l = hc.chord in
    record {
      slab = slab_point h h.from (omega (arith, ints, e)) (omega (arith, ints, e, l));
      over = inr (omega (arith, ints, g));
    }

inner_over : (h : HalfArc) (v : Point) → IsCap (cap h) → pos 0 ≤ℤ along h (point v)
    → along h (point v) ≤ℤ chord h → (power h (point v) <ℤ pos 0) ⊎ (v ≡ h.to) → Corner h v
inner_over h v hc a b (inl k) = record {
  slab = slab_point h v a b;
  over = inl (shape_below h (point v) hc k);
}
inner_over h v hc a b (inr e) =
    let g = ap (λ (u : Point). bow h (point u)) e in
    let z = bow-to h in
    record { slab = slab_point h v a b; over = inr (omega (arith, ints, g, z)) }

pub inner_most : (h : HalfArc) (v : Point) → IsCap (cap h)
    → (power h (point v) <ℤ pos 0) ⊎ (v ≡ h.to) → shape (cap h) (point (seen_point h v)) ≤ℤ pos 0
inner_most h v hc (inl k) = shape_most h (point v) hc (omega (arith, ints, k))
inner_most h v hc (inr e) =
    let g = ap (λ (u : Point). power h (point u)) e in
    let z = power-to h in
    shape_most h (point v) hc (omega (arith, ints, g, z))

arch : (h : HalfArc) (p : Point) (b : Bay) → IsCap (cap h) → IsBay h p b
    → IsArch (seen_point h p) (seen_bay h b)
arch h p b hc k = record {
  up = k.up;
  on = k.on;
  over = subst (λ (z : ℤ). pos 0 <ℤ z) (sym (side-seen h p b.inner b.outer))
      (product_positive (chord h) (outward h p b.inner b.outer) hc.chord k.over);
}

outer_over : (h : HalfArc) (p : Point) (b : Bay) → IsCap (cap h) → IsBay h p b
    → pos 0 ≤ℤ along h (point p) → along h (point b.inner) ≤ℤ chord h → Corner h p
    → Corner h b.inner → Corner h b.outer
outer_over h p b hc k a l op ov =
    let u = k.up in
    let v = k.on in
    let one : pos 0 <ℤ pos 1 = omega (arith, ints) in
    raised_over (cap h) (seen_point h p) (seen_point h b.inner)
    (point (seen_point h b.outer)) hc one
    (omega (arith, ints, u, v)) record {
      low = omega (arith, ints, u);
      high = omega (arith, ints, v);
    }
    (slab_point h b.outer (omega (arith, ints, a, u)) (omega (arith, ints, v, l))) op ov
    (arch h p b hc k).over

-- all corners, along the bays
abbrev pub AreOver : HalfArc → Point → List Bay → Type 0
AreOver h p [] = Corner h p
AreOver h p (b ∷ rest) = Corner h p × (Corner h b.outer × AreOver h b.inner rest)

pub first_over : (h : HalfArc) (p : Point) (bs : List Bay) → AreOver h p bs → Corner h p
first_over h p [] o = o
first_over h p (b ∷ rest) o = o.0

next_low : (h : HalfArc) (p : Point) (b : Bay) (rest : List Bay) → IsRest h p b rest
    → pos 0 ≤ℤ along h (point p) → pos 0 ≤ℤ along h (point b.inner)
next_low h p b rest r a =
    let u = r.are_bays.0.up in let v = r.are_bays.0.on in omega (arith, ints, a, u, v)

next_over : (h : HalfArc) (p : Point) (b : Bay) (rest : List Bay) → IsCap (cap h)
    → IsRest h p b rest → pos 0 ≤ℤ along h (point p) → Corner h b.inner
next_over h p b rest hc r a =
    inner_over h b.inner hc (next_low h p b rest r a) (before_end h p b rest r) r.inside.0

between_over : (h : HalfArc) (p : Point) (b : Bay) (rest : List Bay) → IsCap (cap h)
    → IsRest h p b rest → pos 0 ≤ℤ along h (point p) → Corner h p → Corner h b.outer
between_over h p b rest hc r a op =
    outer_over h p b hc r.are_bays.0 a (before_end h p b rest r) op (next_over h p b rest hc r a)

corners_over : (h : HalfArc) (p : Point) (b : Bay) (rest : List Bay) → IsCap (cap h)
    → IsRest h p b rest → pos 0 ≤ℤ along h (point p) → Corner h p → AreOver h p (b ∷ rest)
corners_over h p b [] hc r a op = (op, (between_over h p b [] hc r a op, next_over h p b [] hc r a))
corners_over h p b (d ∷ rest) hc r a op = (
  op,
  (
    between_over h p b (d ∷ rest) hc r a op,
    corners_over h b.inner d rest hc (rest_of h p b d rest r) (next_low h p b (d ∷ rest) r a)
        (next_over h p b (d ∷ rest) hc r a),
  ),
)

-- ---- the tube is a strip
outer_high : (h : HalfArc) (v : Point) → IsCap (cap h) → Corner h v → pos 0 ≤ℤ power h (point v)
    → pos 0 ≤ℤ bow h (point v)
outer_high h v hc o k = over_away h (point v) hc o k

dip : (h : HalfArc) (b d : Bay) → IsCap (cap h) → AreNext h b d
    → along h (point b.outer) <ℤ along h (point b.inner)
    → IsDip (seen_point h b.outer) (seen_point h b.inner) (seen_point h d.outer)
dip h b d hc n l = record {
  up = l;
  under = subst (λ (z : ℤ). z <ℤ pos 0) (sym (side-seen h b.outer d.outer b.inner))
      (times_below (chord h) (outward h b.outer d.outer b.inner) hc.chord n.under);
}

bay_high : (h : HalfArc) (p : Point) (b : Bay) (rest : List Bay) → IsCap (cap h) → IsRest h p b rest
    → AreOver h p (b ∷ rest) → pos 0 ≤ℤ bow h (point b.outer)
bay_high h p b rest hc r o = outer_high h b.outer hc o.1.0 (outer_least h p b rest r)

strip_from : (h : HalfArc) (q p : Point) (b : Bay) (rest : List Bay) → IsCap (cap h)
    → IsRest h p b rest → AreOver h p (b ∷ rest) → shape (cap h) (point (seen_point h p)) ≤ℤ pos 0
    → (seen_point h q ≡ seen_point h p)
    ⊎ IsDip (seen_point h q) (seen_point h p) (seen_point h b.outer)
    → IsFence (cap h) (seen_point h q) (seen_point h b.outer)
    → IsCapStrip (cap h) (seen_point h q) (seen_point h p) (seen_bays h (b ∷ rest))
strip_from h q p b [] hc r o low join f = (
  arch h p b hc r.are_bays.0,
  join,
  f,
  low,
  (
    along_end h b.inner r.ends,
    r.are_bays.0.on,
    subst (λ (v : Point). IsFence (cap h) (seen_point h b.outer) (seen_point h v)) (sym r.ends)
        (fence_last h b.outer hc (bay_high h p b [] hc r o) r.last_clear),
    inner_most h b.inner hc r.inside.0,
  ),
)
strip_from h q p b (d ∷ rest) hc r o low join f =
    let s = rest_of h p b d rest r in (
      arch h p b hc r.are_bays.0,
      join,
      f,
      low,
      strip_from h b.outer b.inner d rest hc s o.1.1 (inner_most h b.inner hc r.inside.0)
          (inr (dip h b d hc r.are_next.0 r.are_bays.0.on))
          (fence_next h b d hc (bay_high h p b (d ∷ rest) hc r o)
          (bay_high h b.inner d rest hc s o.1.1) r.are_next.0),
    )

-- ---- a tube
pub tube_cap : (h : HalfArc) (bs : List Bay) → IsTube h bs → IsCap (cap h)
tube_cap h bs t = cap_is h t.circle t.facing

pub tube_rest : (h : HalfArc) (b : Bay) (rest : List Bay) → IsTube h (b ∷ rest)
    → IsRest h h.from b rest
tube_rest h b rest t = record {
  are_bays = t.are_bays;
  are_next = t.are_next;
  ends = t.ends;
  inside = t.inside;
  last_clear = t.last_clear;
}

pub tube_over : (h : HalfArc) (b : Bay) (rest : List Bay) → IsTube h (b ∷ rest)
    → AreOver h h.from (b ∷ rest)
tube_over h b rest t =
    let hc = tube_cap h (b ∷ rest) t in
    corners_over h h.from b rest hc (tube_rest h b rest t) (let e = along-from h in
    omega (arith, ints, e)) (from_over h hc)

pub tube_strip : (h : HalfArc) (b : Bay) (rest : List Bay) → IsTube h (b ∷ rest)
    → IsCapStrip (cap h) (seen_point h h.from) (seen_point h h.from) (seen_bays h (b ∷ rest))
tube_strip h b rest t =
    let hc = tube_cap h (b ∷ rest) t in
    let r = tube_rest h b rest t in
    let o = tube_over h b rest t in
    let e = power-from h in
    strip_from h h.from h.from b rest hc r o
    (shape_most h (point h.from) hc (omega (arith, ints, e))) (inl refl)
    (fence_first h b.outer hc (outer_high h b.outer hc o.1.0 (outer_least h h.from b rest r))
    t.first_clear)

-- a place of the tube is over the circle's lower part
bays_over : (h : HalfArc) (p : Point) (bs : List Bay) (z : Vector) → IsCap (cap h) → Place z
    → AreOver h p bs → InBays p bs z → IsOver (cap h) (seen h z)
bays_over h p [] z hc hz o k = absurd k
bays_over h p (b ∷ rest) z hc hz o (inl k) =
    let one : pos 0 <ℤ pos 1 = omega (arith, ints) in
    over_triangle (cap h) (seen h z) (seen h (point p)) (seen h (point b.inner))
    (seen h (point b.outer)) hc hz one one one o.0 (first_over h b.inner rest o.1.1) o.1.0
    (triangle_seen h z (point p) (point b.inner) (point b.outer) k)
bays_over h p (b ∷ rest) z hc hz o (inr k) = bays_over h b.inner rest z hc hz o.1.1 k

gaps_over : (h : HalfArc) (p : Point) (bs : List Bay) (z : Vector) → IsCap (cap h) → Place z
    → AreOver h p bs → InGaps bs z → IsOver (cap h) (seen h z)
gaps_over h p [] z hc hz o k = absurd k
gaps_over h p (b ∷ []) z hc hz o k = absurd k
gaps_over h p (b ∷ (d ∷ rest)) z hc hz o (inl k) =
    let one : pos 0 <ℤ pos 1 = omega (arith, ints) in
    over_triangle (cap h) (seen h z) (seen h (point b.inner)) (seen h (point b.outer))
    (seen h (point d.outer)) hc hz one one one o.1.1.0 o.1.0 o.1.1.1.0
    (triangle_seen h z (point b.inner) (point b.outer) (point d.outer) k)
gaps_over h p (b ∷ (d ∷ rest)) z hc hz o (inr k) = gaps_over h b.inner (d ∷ rest) z hc hz o.1.1 k

pub in_tube_over : (h : HalfArc) (b : Bay) (rest : List Bay) (z : Vector) → IsTube h (b ∷ rest)
    → Place z → InTube h.from (b ∷ rest) z → IsOver (cap h) (seen h z)
in_tube_over h b rest z t hz (inl k) =
    bays_over h h.from (b ∷ rest) z (tube_cap h (b ∷ rest) t) hz (tube_over h b rest t) k
in_tube_over h b rest z t hz (inr k) =
    gaps_over h h.from (b ∷ rest) z (tube_cap h (b ∷ rest) t) hz (tube_over h b rest t) k
