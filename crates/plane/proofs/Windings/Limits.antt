-- Tubes are closed: a place in the closure of a cell with a tube's label is in the tube. And the
-- label of a cell, from any closed strip.
use Rattle.std.proofs.Common.{◌≡◌, ℕ, suc, ◌<◌, ◌≤◌, List, [], ◌∷◌, ◌++◌, length, ℤ, pos, ◌+ℤ◌}
use Rattle.std.proofs.Common.{◌*ℤ◌, ◌-ℤ◌, ◌<ℤ◌, ◌≤ℤ◌, ◌⊎◌, inl, inr, refl, arith, ap, sym, ◌∙◌}
use Rattle.std.proofs.Common.{subst}
use Rattle.std.proofs.lemmas.Int.{ints, by_lt_z}
use Rattle.plane.specs.declared.kinds.Point.{Point}
use Rattle.plane.specs.Lists.{Has}
use Rattle.plane.specs.Forms.Vectors.{Vector, Place, Edge, side, sweep}
use Rattle.plane.specs.Faces.Replays.{Replay, IsOffEdges, reach}
use Rattle.plane.proofs.Runs.RunWords.{IsStrip, IsBetweenEvents}
use Rattle.plane.specs.Faces.Cells.{sector, sector_at, strip}
use Rattle.plane.specs.Faces.Halves.{Half, IsMatched}
use Rattle.plane.specs.Faces.Labels.{Labels, last_label}
use Rattle.plane.specs.Faces.Cells.{label_of}
use Rattle.plane.specs.Tubes.Windings.{Tile, IsLeftTile, IsSteep, Bay, tiles, InTile, InSomeTile}
use Rattle.plane.specs.Tubes.Windings.{IsTiled}
use Rattle.plane.specs.Tubes.Facing.{IsDrawnTube}
use Rattle.plane.proofs.Algebra.Scaling.{times_le}
use Rattle.plane.proofs.ListLemmas.Lists.{each_has, has_front}
use Rattle.plane.proofs.Strips.Heights.{Parts}
use Rattle.plane.proofs.Strips.OneCut.{sides}
use Rattle.plane.proofs.Strips.OneStrip.{strip_is, strip_only}
use Rattle.plane.proofs.Strips.OnSweepLine.{opens_at}
use Rattle.plane.proofs.Strips.ToTheRight.{level_strip, spans_strip, scaled_reach}
use Rattle.plane.proofs.Strips.Centres.{centre}
use Rattle.plane.proofs.Windings.OneTriangle.{side_a, side_b, side_c, IsWithin, within_triangle}
use Rattle.plane.proofs.Windings.OneTriangle.{triangle_within}
use Rattle.plane.proofs.LabelLemmas.HalfLabels.{opens_label}
use Rattle.plane.proofs.Windings.Under.{by_order}
use Rattle.plane.proofs.Windings.TubeCells.{floor_is, cut_holds}
use Rattle.plane.proofs.Windings.Whole.{IsWhole}
use Rattle.plane.proofs.Windings.Enters.{Decided}
use Rattle.plane.proofs.Windings.Closures.{near_place, near_side, near_inside, IsClose}
use Rattle.plane.proofs.FaceLemmas.SmallSteps.{near}

-- ---- a list of triangles is closed
-- from some number on, no place near z is within the triangles
record IsFar (z y : Vector) (ts : List Tile) : Type 0 where
  from : ℤ
  least : pos 0 ≤ℤ from
  far : (n : ℤ) → from ≤ℤ n → (t : Tile) → Has t ts → IsWithin t (near n z y) → ⊥

-- a side below 0 at z is below 0 near z
far_side : (z y : Vector) (e : Edge) → side e z <ℤ pos 0
    → (m : ℤ) × (pos 0 ≤ℤ m) × ((n : ℤ) → m ≤ℤ n → pos 0 ≤ℤ side e (near n z y) → ⊥)
far_side z y e h = by_lt_z (pos 0) (side e y)
    (λ (l : pos 0 <ℤ side e y). (
      side e y +ℤ pos 1,
      omega (arith, ints, l),
      λ (n : ℤ) k w.
          let s = near_side n z y e in
          let p = times_le n (side e z) (pos 0 -ℤ pos 1) (omega (arith, ints, l, k))
          (omega (arith, ints, h)) in
          let q : n *ℤ (pos 0 -ℤ pos 1) ≡ pos 0 -ℤ n = minus_one n in
          omega (arith, ints, s, p, q, k, w),
    ))
    (λ (l : side e y ≤ℤ pos 0). (
      pos 1,
      omega (arith, ints),
      λ (n : ℤ) k w.
          let s = near_side n z y e in
          let p = times_le n (side e z) (pos 0 -ℤ pos 1) (omega (arith, ints, k))
          (omega (arith, ints, h)) in
          let q : n *ℤ (pos 0 -ℤ pos 1) ≡ pos 0 -ℤ n = minus_one n in
          omega (arith, ints, s, p, q, k, w, l),
    ))
  where
    minus_one : (n : ℤ) → n *ℤ (pos 0 -ℤ pos 1) ≡ pos 0 -ℤ n
    minus_one n = omega (arith, ints)

decide_within : (t : Tile) (z : Vector)
    → IsWithin t z ⊎ ((side_a t z <ℤ pos 0) ⊎ ((side_b t z <ℤ pos 0) ⊎ (side_c t z <ℤ pos 0)))
decide_within t z =
    by_lt_z (side_a t z) (pos 0) (λ l. inr (inl l)) (λ a.
    by_lt_z (side_b t z) (pos 0) (λ l. inr (inr (inl l))) (λ b.
    by_lt_z (side_c t z) (pos 0) (λ l. inr (inr (inr l))) (λ c. inl (a, b, c))))

far_one : (t : Tile) (z y : Vector)
    → (side_a t z <ℤ pos 0) ⊎ ((side_b t z <ℤ pos 0) ⊎ (side_c t z <ℤ pos 0))
    → (m : ℤ) × (pos 0 ≤ℤ m) × ((n : ℤ) → m ≤ℤ n → IsWithin t (near n z y) → ⊥)
far_one t z y (inl h) = let f = far_side z y _ h in (f.0, f.1, λ n k w. f.2 n k w.0)
far_one t z y (inr (inl h)) = let f = far_side z y _ h in (f.0, f.1, λ n k w. f.2 n k w.1)
far_one t z y (inr (inr h)) = let f = far_side z y _ h in (f.0, f.1, λ n k w. f.2 n k w.2)

-- z is within one of the triangles, or they are far from it
within_or_far : (z y : Vector) (ts : List Tile)
    → ((t : Tile) × Has t ts × IsWithin t z) ⊎ IsFar z y ts
within_or_far z y [] =
    inr (record { from = pos 0; least = omega (arith, ints); far = λ n k t m w. m })
within_or_far z y (t ∷ ts) = elim (within_or_far z y ts) [
  | inl h ↦ inl (h.0, inr h.1, h.2)
  | inr f ↦ elim (decide_within t z) [
    | inl h ↦ inl (t, inl refl, h)
    | inr h ↦
        let g = far_one t z y h in
        let a = f.least in
        let b = g.1 in
        inr (record {
          from = f.from +ℤ g.0;
          least = omega (arith, ints, a, b);
          far = λ n k u m w. elim m [
            | inl q ↦ g.2 n (omega (arith, ints, a, k))
                (subst (λ (x : Tile). IsWithin x (near n z y)) q w)
            | inr i ↦ f.far n (omega (arith, ints, b, k)) u i w
          ];
        })
  ]
]

pub tiles_closed : (w : ℤ) (z y : Vector) (ts : List Tile) → Place z → Place y → IsTiled w ts
    → ((n : ℤ) → pos 0 ≤ℤ n → InSomeTile ts (near n z y)) → InSomeTile ts z
tiles_closed w z y ts Z Y tiled h = elim (within_or_far z y ts) [
  | inl k ↦ (k.0, k.1, within_triangle k.0 z Z (left k.0 k.1) k.2)
  | inr f ↦
      let i = h f.from f.least in
      absurd (f.far f.from (omega (arith, ints)) i.0 i.1
      (triangle_within i.0 (near f.from z y) (near_place f.from z y f.least Z Y)
      (left i.0 i.1) i.2))
]
  where
    left : (t : Tile) → Has t ts → IsLeftTile t
    left t m = (each_has (λ u. IsLeftTile u × IsSteep w u) ts t tiled m).0

not_within : (t : Tile) (z : Vector)
    → (side_a t z <ℤ pos 0) ⊎ ((side_b t z <ℤ pos 0) ⊎ (side_c t z <ℤ pos 0)) → IsWithin t z → ⊥
not_within t z (inl h) w = let x = w.0 in omega (arith, ints, x, h)
not_within t z (inr (inl h)) w = let x = w.1 in omega (arith, ints, x, h)
not_within t z (inr (inr h)) w = let x = w.2 in omega (arith, ints, x, h)

pub decide_in_some : (w : ℤ) (z : Vector) (ts : List Tile) → Place z → IsTiled w ts
    → Decided (InSomeTile ts z)
decide_in_some w z [] Z h = inr (λ s. s.1)
decide_in_some w z (t ∷ ts) Z h = elim (decide_in_some w z ts Z h.1) [
  | inl s ↦ inl (s.0, inr s.1, s.2)
  | inr n ↦ elim (decide_within t z) [
    | inl k ↦ inl (t, inl refl, within_triangle t z Z h.0.0 k)
    | inr k ↦ inr (λ s. elim s.1 [
      | inl q ↦ not_within t z k
          (triangle_within t z Z h.0.0 (subst (λ (x : Tile). InTile x z) q s.2))
      | inr m ↦ n (s.0, m, s.2)
    ])
  ]
]

-- ---- parts of a list of signs
parts_lower : (f : ℕ → ℤ) (xs ys : List ℕ) → Parts f (length xs) (xs ++ ys) → (e : ℕ) → Has e xs
    → pos 0 <ℤ f e
parts_lower f [] ys h e m = absurd m
parts_lower f (x ∷ xs) ys h e (inl q) = subst (λ (d : ℕ). pos 0 <ℤ f d) (sym q) h.0
parts_lower f (x ∷ xs) ys h e (inr m) = parts_lower f xs ys h.1 e m

parts_upper : (f : ℕ → ℤ) (xs ys : List ℕ) → Parts f (length xs) (xs ++ ys) → (e : ℕ) → Has e ys
    → f e <ℤ pos 0
parts_upper f [] [] h e m = absurd m
parts_upper f [] (y ∷ ys) h e (inl q) = subst (λ (d : ℕ). f d <ℤ pos 0) (sym q) h.0
parts_upper f [] (y ∷ ys) h e (inr m) = parts_upper f [] ys h.1 e m
parts_upper f (x ∷ xs) ys h e m = parts_upper f xs ys h.1 e m

length_fits : (xs ys : List ℕ) → length xs ≤ length (xs ++ ys)
length_fits [] ys = omega arith
length_fits (x ∷ xs) ys = let k = length_fits xs ys in omega (arith, k)

inside_strip : (r : Replay) (k : ℕ) (z : Vector) → k ≤ r.steps → IsBetweenEvents r k z
    → IsStrip r k z
inside_strip r k z h i = record {
  fits = h;
  from = λ (j : ℕ) (a : j < k). let x = i.from j a in omega (arith, ints, x);
  to = i.to;
}

module _ (r : Replay) (whole : IsWhole r) (lab : Labels) (matched : IsMatched r lab) where
  -- a place in the closure of a cell with the tube's label is in the tube
  pub close_in_tube : (t : ℕ) (a : Point) (b : Bay) (bs : List Bay) (hs : List Half)
      → IsDrawnTube r lab t a b bs hs
      → (k : ℕ) (lower upper : List ℕ) (z : Vector) → Place z → IsClose r k lower upper z
      → last_label lab 0 lower ≡ t → InSomeTile (tiles a (b ∷ bs)) z
  close_in_tube t a b bs hs tube k lower upper z Z close label =
      let c = centre r whole.run whole.law (record { strip = k; index = length lower })
      (record {
        strip = close.fits;
        index = subst (λ (es : List ℕ). length lower ≤ length es) (sym close.is)
            (length_fits lower upper);
      }) in
      let y = c.0 in
      let parts = subst (λ (es : List ℕ). Parts (sides r y) (length lower) es) close.is c.1.parts in
      tiles_closed r.weight z y (tiles a (b ∷ bs)) Z c.1.place tube.tiled
      (λ n h. cut_holds r whole.run whole.law whole.once lab matched t a b bs hs tube k (near n z y)
      (near_place n z y h Z c.1.place)
      (inside_strip r k (near n z y) close.fits (near_inside r k n z y h close.closed c.1.inside))
      lower upper close.is
      (λ e m. strictly n (side (r.edge e) z) (side (r.edge e) y) (side (r.edge e) (near n z y)) h
      (close.beneath e m) (parts_lower (sides r y) lower upper parts e m)
      (near_side n z y (r.edge e)))
      (λ e m. not_over n (side (r.edge e) z) (side (r.edge e) y) (side (r.edge e) (near n z y)) h
      (close.over e m) (parts_upper (sides r y) lower upper parts e m)
      (near_side n z y (r.edge e)))
      label)
    where
      strictly : (n x y v : ℤ) → pos 0 ≤ℤ n → pos 0 ≤ℤ x → pos 0 <ℤ y → v ≡ (n *ℤ x) +ℤ y
          → pos 0 <ℤ v
      strictly n x y v h a b e =
          let p = times_le n (pos 0) x h a in
          let q : n *ℤ pos 0 ≡ pos 0 = omega (arith, ints) in omega (arith, ints, p, q, b, e)

      not_over : (n x y v : ℤ) → pos 0 ≤ℤ n → x ≤ℤ pos 0 → y <ℤ pos 0 → v ≡ (n *ℤ x) +ℤ y
          → v ≤ℤ pos 0
      not_over n x y v h a b e =
          let p = times_le n x (pos 0) h a in
          let q : n *ℤ pos 0 ≡ pos 0 = omega (arith, ints) in omega (arith, ints, p, q, b, e)

  -- the cell of a place off the edges has the label of each closure that the place is in
  pub close_label : (k : ℕ) (lower upper : List ℕ) (z : Vector) → Place z → IsOffEdges r z
      → IsClose r k lower upper z → label_of lab r (sector r z) ≡ last_label lab 0 lower
  close_label k lower upper z Z off close =
      here ∙ floor_is r lab z k lower upper close.is
      (λ e m. let b = close.beneath e m in
      let n = not_on e
      (subst (λ (es : List ℕ). Has e es) (sym close.is) (has_front e lower upper m)) in
      by_lt_z (pos 0) (side (r.edge e) z) (λ l. l)
      (λ (l : side (r.edge e) z ≤ℤ pos 0). absurd (n (omega (arith, ints, l, b)))))
      close.over
    where
      not_on : (e : ℕ) → Has e (r.list k) → side (r.edge e) z ≡ pos 0 → ⊥
      not_on e m zero_side =
          let s = spans_strip r whole.run whole.law k e z close.fits m close.closed in
          off e (whole.law.live k e close.fits m) (record {
            line = zero_side;
            low = s.low;
            high = s.high;
          })

      same_strip : IsStrip r k z → label_of lab r (sector r z) ≡ label_of lab r (sector_at r z k)
      same_strip s =
          ap (λ (j : ℕ). label_of lab r (sector_at r z j))
          (strip_only r whole.run (strip r z) k z (strip_is r whole.run z Z) s)

      here : label_of lab r (sector r z) ≡ label_of lab r (sector_at r z k)
      here = by_order k r.steps
          (λ (l : k < r.steps). by_lt_z (sweep r.weight z) (reach r k *ℤ z.n)
          (λ (h : sweep r.weight z <ℤ (reach r k *ℤ z.n)). same_strip (record {
            fits = close.fits;
            from = close.closed.from;
            to = λ (j : ℕ) (a : k ≤ j) (b : j < r.steps). let x =
                scaled_reach r whole.run k j z.n Z a b in omega (arith, ints, x, h);
          }))
          (λ (h : (reach r k *ℤ z.n) ≤ℤ sweep r.weight z).
          let x = close.closed.to k (omega arith) l in
          let level : sweep r.weight z ≡ reach r k *ℤ z.n = omega (arith, ints, h, x) in
          let s = level_strip r whole.run k z Z l level in
          ap (λ (j : ℕ). label_of lab r (sector_at r z j))
          (strip_only r whole.run (strip r z) (suc k) z (strip_is r whole.run z Z) s)
          ∙ sym (opens_label r whole.run whole.law lab matched (sector_at r z k)
          (sector_at r z (suc k)) (opens_at r whole.run whole.law k z l Z off level))))
          (λ (l : r.steps ≤ k). same_strip (record {
            fits = close.fits;
            from = close.closed.from;
            to = λ (j : ℕ) (a : k ≤ j) (b : j < r.steps). absurd (omega arith);
          }))
