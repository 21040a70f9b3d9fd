-- Where the inner corners of a tube stand strictly over the chord, no place of the chord but its
-- ends is in the tube; and of a tube with
-- two bays no bound joins the ends of the half arc.
use Rattle.std.proofs.Common.{◌≡◌, ◌⊎◌, inl, inr, List, [], ◌∷◌, ℤ, pos, ◌+ℤ◌, ◌*ℤ◌, ◌-ℤ◌, ◌<ℤ◌}
use Rattle.std.proofs.Common.{◌≤ℤ◌, refl, arith, ap, sym, ◌∙◌, subst}
use Rattle.std.proofs.lemmas.Int.{ints, by_lt_z}
use Rattle.plane.specs.declared.kinds.Point.{Point}
use Rattle.plane.specs.Lists.{Each, Has, Last}
use Rattle.plane.specs.Forms.Vectors.{Vector, Place, point, Edge, side}
use Rattle.plane.specs.Forms.Meets.{IsEnd}
use Rattle.plane.specs.Forms.Arcs.{HalfArc, chord, along, bow, seen}
use Rattle.plane.specs.Tubes.CapStrips.{line, InColumn, AtInner}
use Rattle.plane.specs.Tubes.Regions.{seen_point, seen_bays, NotUnder}
use Rattle.plane.specs.Tubes.Bays.{Bay, InTube, AreBays, IsSome, IsTube}
use Rattle.plane.specs.Tubes.Windings.{fence, bounds}
use Rattle.plane.proofs.Algebra.Laws.{product_positive, product_nonnegative}
use Rattle.plane.proofs.Algebra.Ring.{at, num, plus, minus, times, vars, ring}
use Rattle.plane.proofs.Linear.Vectors.{SIDE}
use Rattle.plane.proofs.Caps.CapStrips.{further}
use Rattle.plane.proofs.Caps.Pictures.{along-from, along-to, bow-from, bow-to}
use Rattle.plane.proofs.OneTube.TubeStrips.{IsRest, rest_of, before_end, tube_rest}
use Rattle.plane.proofs.OneTube.TubeLaws.{tube_region}

-- ---- a place of the x axis and a straight over it
side_axis : (p q : Point) (z : Vector) → z.y ≡ pos 0
    → side (line p q) z
    ≡ pos 0 -ℤ ((p.y *ℤ ((q.x *ℤ z.n) -ℤ z.x)) +ℤ (q.y *ℤ (z.x -ℤ (p.x *ℤ z.n))))
unfolding side
side_axis p q z e =
    ap (λ (v : ℤ). ((q.x -ℤ p.x) *ℤ (v -ℤ (p.y *ℤ z.n))) -ℤ ((q.y -ℤ p.y) *ℤ (z.x -ℤ (p.x *ℤ z.n))))
    e
    ∙ ring (SIDE (at 0) (at 1) (at 2) (at 3) (at 4) (num (pos 0)) (at 5))
    (minus (num (pos 0))
    (plus (times (at 1) (minus (times (at 2) (at 5)) (at 4)))
    (times (at 3) (minus (at 4) (times (at 0) (at 5))))))
    (vars (p.x ∷ p.y ∷ q.x ∷ q.y ∷ z.x ∷ z.n ∷ [])) refl

-- the straight is strictly over the place
abbrev IsHigh : Point → Point → Vector → Type 0
IsHigh p q z = ((pos 0 <ℤ q.y) × ((p.x *ℤ z.n) <ℤ z.x)) ⊎ ((pos 0 <ℤ p.y) × (z.x <ℤ (q.x *ℤ z.n)))

not_under : (p q : Point) (z : Vector) → z.y ≡ pos 0 → pos 0 ≤ℤ p.y → pos 0 ≤ℤ q.y → InColumn p q z
    → IsHigh p q z → pos 0 ≤ℤ side (line p q) z → ⊥
not_under p q z e hp hq col (inl h) l =
    let top = col.high in
    let x = h.1 in
    let u = product_nonnegative p.y ((q.x *ℤ z.n) -ℤ z.x) hp (omega (arith, ints, top)) in
    let w = product_positive q.y (z.x -ℤ (p.x *ℤ z.n)) h.0 (omega (arith, ints, x)) in
    let f = side_axis p q z e in
    omega (arith, ints, u, w, f, l)
not_under p q z e hp hq col (inr h) l =
    let low = col.low in
    let x = h.1 in
    let v = product_nonnegative q.y (z.x -ℤ (p.x *ℤ z.n)) hq (omega (arith, ints, low)) in
    let w = product_positive p.y ((q.x *ℤ z.n) -ℤ z.x) h.0 (omega (arith, ints, x)) in
    let f = side_axis p q z e in
    omega (arith, ints, v, w, f, l)

-- ---- the walk along the inner chain
abbrev pub StandsHigh : HalfArc → Bay → Type 0
StandsHigh h b = (b.inner ≡ h.to) ⊎ (pos 0 <ℤ bow h (point b.inner))

high_least : (h : HalfArc) (b : Bay) → StandsHigh h b → pos 0 ≤ℤ bow h (point b.inner)
high_least h b (inl e) =
    let x = ap (λ (p : Point). bow h (point p)) e in let y = bow-to h in omega (arith, ints, x, y)
high_least h b (inr l) = omega (arith, ints, l)

-- of a place before the end of the chord: a corner that is not before it stands high
at_high : (h : HalfArc) (b : Bay) (z : Vector) → along h z <ℤ (chord h *ℤ z.n) → StandsHigh h b
    → (along h (point b.inner) *ℤ z.n) ≤ℤ along h z → pos 0 <ℤ bow h (point b.inner)
at_high h b z before (inr l) k = l
at_high h b z before (inl e) k =
    let x = ap (λ (p : Point). along h (point p) *ℤ z.n) e in
    let y = ap (λ (v : ℤ). v *ℤ z.n) (along-to h) in
    absurd (omega (arith, ints, x, y, k, before))

module _ (h : HalfArc) (z : Vector) (Z : Place z) (axis : bow h z ≡ pos 0)
    (before : along h z <ℤ (chord h *ℤ z.n)) where
  -- in the column of the first straight
  here : (p : Point) (b : Bay) (rest : List Bay) → AreBays h p (b ∷ rest) → StandsHigh h b
      → pos 0 ≤ℤ bow h (point p) → (along h (point p) *ℤ z.n) ≤ℤ along h z
      → (pos 0 <ℤ bow h (point p))
      ⊎ ((pos 0 <ℤ bow h (point b.inner)) × ((along h (point p) *ℤ z.n) <ℤ along h z))
      → AtInner NotUnder (seen h z) (seen_point h p) (seen_bays h (b ∷ rest))
      → along h z ≤ℤ (along h (point b.inner) *ℤ z.n) → ⊥
  here p b rest are high hp low start over l =
      let up = are.0.up in let on = are.0.on in
      let wide = further (along h (point p)) (along h (point b.inner)) z.n Z
      (omega (arith, ints, up, on)) in
      not_under (seen_point h p) (seen_point h b.inner) (seen h z) axis hp (high_least h b high)
      (record { low = low; high = l })
      (elim start [
        | inr (y, x) ↦ inl (y, x)
        | inl y ↦ by_lt_z (along h z) (along h (point b.inner) *ℤ z.n)
            (λ (k : along h z <ℤ (along h (point b.inner) *ℤ z.n)). inr (y, k))
            (λ (k : (along h (point b.inner) *ℤ z.n) ≤ℤ along h z). inl
            (at_high h b z before high k, omega (arith, ints, wide, k)))
      ])
      (over.0 (record { low = low; high = l }))

  walk : (p : Point) (b : Bay) (rest : List Bay) → AreBays h p (b ∷ rest)
      → Last (λ d. d.inner ≡ h.to) (b ∷ rest) → Each (StandsHigh h) (b ∷ rest)
      → pos 0 ≤ℤ bow h (point p) → (along h (point p) *ℤ z.n) ≤ℤ along h z
      → (pos 0 <ℤ bow h (point p))
      ⊎ ((pos 0 <ℤ bow h (point b.inner)) × ((along h (point p) *ℤ z.n) <ℤ along h z))
      → AtInner NotUnder (seen h z) (seen_point h p) (seen_bays h (b ∷ rest)) → ⊥
  walk p b [] are ends high hp low start over =
      let x = ap (λ (q : Point). along h (point q) *ℤ z.n) ends in
      let y = ap (λ (v : ℤ). v *ℤ z.n) (along-to h) in
      here p b [] are high.0 hp low start over (omega (arith, ints, x, y, before))
  walk p b (d ∷ rest) are ends high hp low start over =
      by_lt_z (along h (point b.inner) *ℤ z.n) (along h z)
      (λ (l : (along h (point b.inner) *ℤ z.n) <ℤ along h z).
      walk b.inner d rest are.1 ends high.1 (high_least h b high.0) (omega (arith, ints, l))
      (inl (at_high h b z before high.0 (omega (arith, ints, l)))) over.1)
      (λ (l : along h z ≤ℤ (along h (point b.inner) *ℤ z.n)). here p b
      (d ∷ rest) are high.0 hp low start over l)

-- no place of the chord strictly between its ends is in the tube, if the inner corners but the last
-- stand over it
pub high_chord_out : (h : HalfArc) (b : Bay) (rest : List Bay) (z : Vector) → IsTube h (b ∷ rest)
    → IsSome rest → Each (StandsHigh h) (b ∷ rest) → Place z → bow h z ≡ pos 0
    → pos 0 <ℤ along h z → along h z <ℤ (chord h *ℤ z.n) → InTube h.from (b ∷ rest) z → ⊥
high_chord_out h b [] z t wide high Z axis after before inside = wide
high_chord_out h b (d ∷ rest) z t wide high Z axis after before inside =
    let r = tube_region h (b ∷ (d ∷ rest)) z t Z inside in
    let e = ap (λ (v : ℤ). v *ℤ z.n) (along-from h) in
    let f = bow-from h in
    let low : (along h (point h.from) *ℤ z.n) <ℤ along h z = omega (arith, ints, e, after) in
    let s = rest_of h h.from b d rest (tube_rest h b (d ∷ rest) t) in
    let k = before_end h b.inner d rest s in
    let up = s.are_bays.0.up in let on = s.are_bays.0.on in
    let inner : pos 0 <ℤ bow h (point b.inner) = elim high.0 [
      | inl x ↦ let y = ap (λ (p : Point). along h (point p)) x in let v = along-to h in
          absurd (omega (arith, ints, y, v, k, up, on))
      | inr l ↦ l
    ] in
    walk h z Z axis before h.from b (d ∷ rest) t.are_bays t.ends high (omega (arith, ints, f))
    (omega (arith, ints, low)) (inr (inner, low)) r.over

-- ---- each bound has an end strictly between the ends of the chord
abbrev pub HasMiddle : HalfArc → Edge → Type 0
HasMiddle h e =
    (q : Point) × IsEnd e q × (pos 0 <ℤ along h (point q)) × (along h (point q) <ℤ chord h)

-- what the conditions say from an inner corner on, if there are bays
abbrev pub Rests : HalfArc → Point → List Bay → Type 0
Rests h p [] = Unit {0}
Rests h p (k ∷ ks) = IsRest h p k ks

pub rests_after : (h : HalfArc) (p : Point) (k : Bay) (ks : List Bay) → IsRest h p k ks
    → Rests h k.inner ks
rests_after h p k [] r = tt
rests_after h p k (d ∷ ks) r = rest_of h p k d ks r

fence_middle : (h : HalfArc) (p u : Point) (ks : List Bay) (e : Edge) → pos 0 <ℤ along h (point u)
    → along h (point u) <ℤ along h (point p) → along h (point p) ≤ℤ chord h
    → Rests h p ks → Has e (fence p u ks) → HasMiddle h e
fence_middle h p u [] e low l top r (inl m) =
    subst (HasMiddle h) (sym m) (u, inr refl, low, omega (arith, ints, l, top))
fence_middle h p u [] e low l top r (inr m) = absurd m
fence_middle h p u (k ∷ ks) e low l top r (inl m) =
    let s = r in
    let up = s.are_bays.0.up in let on = s.are_bays.0.on in
    let end = before_end h p k ks s in
    subst (HasMiddle h) (sym m) (
      p,
      inl refl,
      omega (arith, ints, low, l),
      omega (arith, ints, up, on, end),
    )
fence_middle h p u (k ∷ ks) e low l top r (inr (inl m)) =
    let s = r in
    let up = s.are_bays.0.up in let on = s.are_bays.0.on in
    let end = before_end h p k ks s in
    subst (HasMiddle h) (sym m) (
      k.outer,
      inl refl,
      omega (arith, ints, low, l, up),
      omega (arith, ints, on, end),
    )
fence_middle h p u (k ∷ ks) e low l top r (inr (inr m)) =
    let s = r in
    let up = s.are_bays.0.up in let on = s.are_bays.0.on in
    fence_middle h k.inner k.outer ks e (omega (arith, ints, low, l, up)) on (before_end h p k ks s)
    (rests_after h p k ks s) m

pub bound_middle : (h : HalfArc) (b : Bay) (rest : List Bay) (e : Edge) → IsTube h (b ∷ rest)
    → IsSome rest → Has e (bounds h.from (b ∷ rest)) → HasMiddle h e
bound_middle h b [] e t wide m = absurd wide
bound_middle h b (d ∷ rest) e t wide m =
    let r = tube_rest h b (d ∷ rest) t in
    let s = rest_of h h.from b d rest r in
    let f = along-from h in
    let up = r.are_bays.0.up in let on = r.are_bays.0.on in
    let up2 = s.are_bays.0.up in let on2 = s.are_bays.0.on in
    let end = before_end h b.inner d rest s in
    elim m [
      | inl x ↦ subst (HasMiddle h) (sym x)
          (b.inner, inr refl, omega (arith, ints, f, up, on), omega (arith, ints, up2, on2, end))
      | inr x ↦ elim x [
        | inl y ↦ subst (HasMiddle h) (sym y)
            (b.outer, inl refl, omega (arith, ints, f, up), omega (arith, ints, on, up2, on2, end))
        | inr y ↦ fence_middle h b.inner b.outer (d ∷ rest) e (omega (arith, ints, f, up)) on
            (omega (arith, ints, up2, on2, end)) s y
      ]
    ]
