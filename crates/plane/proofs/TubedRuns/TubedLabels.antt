-- Labels of places in a drawing with half arcs: each place off the curves has one, joined places
-- have one, and an outer place has 0.
use Rattle.std.proofs.Common.{◌≡◌, ℕ, ◌<◌, List, [], ◌∷◌, map, ℤ, ◌+ℤ◌, ◌*ℤ◌, ◌<ℤ◌, ◌≤ℤ◌, inl, inr}
use Rattle.std.proofs.Common.{refl, arith, sym, ◌∙◌, subst}
use Rattle.std.proofs.lemmas.Int.{ints}
use Rattle.plane.specs.declared.kinds.Point.{Point}
use Rattle.plane.specs.Lists.{Has}
use Rattle.plane.specs.Forms.Vectors.{Vector, Place, Edge}
use Rattle.plane.specs.Rule.Plans.{Plan, curve}
use Rattle.plane.specs.Rule.Partition.{IsOff, IsClear, Joined, IsOuter}
use Rattle.plane.specs.Forms.Paths.{Path, ends, goes}
use Rattle.plane.specs.Runs.Steps.{Step, WeighedRun}
use Rattle.plane.specs.Faces.Replays.{Replay, replay}
use Rattle.plane.specs.Faces.Cells.{sector}
use Rattle.plane.specs.Faces.Halves.{Half, under, over, edge_of}
use Rattle.plane.specs.Faces.Labels.{Labels}
use Rattle.plane.specs.Tubes.Bays.{Bay}
use Rattle.plane.specs.Tubes.Windings.{Tile, InTile, tiles, InSomeTile}
use Rattle.plane.specs.Tubes.Facing.{way, IsDrawnTube}
use Rattle.plane.specs.CurveRuns.Extended.{Tubes, AreTubes, HasLabel}
use Rattle.plane.specs.CurveRuns.TubedRuns.{IsTubedRun, AreTubeLabels, tubes, MeetsArc}
use Rattle.plane.proofs.ListLemmas.Lists.{each_has}
use Rattle.plane.proofs.Algebra.Scaling.{times_le, times_lt}
use Rattle.plane.proofs.Algebra.Ring.{at, plus, times, vars, ring}
use Rattle.plane.proofs.Covers.SamePlace.{same_sym}
use Rattle.plane.proofs.Covers.CurvePlaces.{on_same, hits_same, hits_alone}
use Rattle.plane.proofs.Covers.PathLists.{joined_is_path, outer_is_path}
use Rattle.plane.proofs.Strips.Columns.{cell_is}
use Rattle.plane.proofs.Strips.Outer.{low_ends, left_border}
use Rattle.plane.proofs.LabelLemmas.HalfLabels.{border_label}
use Rattle.plane.proofs.Windings.Whole.{IsWhole, swept_whole}
use Rattle.plane.proofs.Windings.Ways.{way_start}
use Rattle.plane.proofs.TubePaths.Extended.{has_label, label_kept}
use Rattle.plane.proofs.Windings.SteepTiles.{tiles_corners}
use Rattle.plane.proofs.TubedRuns.RunTubes.{are_tubes}
use Rattle.plane.proofs.TubedRuns.TubedCurves.{clear_free}

-- ---- a place to the left of the corners of a triangle is not in it
not_left : (b : ℤ) (t : Tile) (z : Vector) → Place z → (b ≤ℤ t.a.x) × (b ≤ℤ t.b.x) × (b ≤ℤ t.c.x)
    → InTile t z → z.x <ℤ (b *ℤ z.n) → ⊥
not_left b t z Z h i left =
    let i1 = times_le i.of_a b t.a.x i.a_least h.0 in
    let i2 = times_le i.of_b b t.b.x i.b_least h.1 in
    let i3 = times_le i.of_c b t.c.x i.c_least h.2 in
    let n = (i.of_a +ℤ i.of_b) +ℤ i.of_c in
    let x = ((i.of_a *ℤ t.a.x) +ℤ (i.of_b *ℤ t.b.x)) +ℤ (i.of_c *ℤ t.c.x) in
    let e = ring (times (at 3) (plus (plus (at 0) (at 1)) (at 2)))
    (plus (plus (times (at 0) (at 3)) (times (at 1) (at 3))) (times (at 2) (at 3)))
    (vars (i.of_a ∷ i.of_b ∷ i.of_c ∷ b ∷ [])) refl in
    let most : (b *ℤ n) ≤ℤ x = omega (arith, ints, i1, i2, i3, e) in
    let some = i.some in
    let j = times_le z.n (b *ℤ n) x (omega (arith, ints, Z)) most in
    let k = times_lt n z.x (b *ℤ z.n) some left in
    let f = ring (times (at 1) (times (at 0) (at 2))) (times (at 2) (times (at 0) (at 1)))
    (vars (b ∷ z.n ∷ n ∷ [])) refl in
    let g = ring (times (at 0) (at 1)) (times (at 1) (at 0)) (vars (z.n ∷ x ∷ [])) refl in
    let l = ring (times (at 0) (at 1)) (times (at 1) (at 0)) (vars (n ∷ z.x ∷ [])) refl in
    let is = i.is.x in
    omega (arith, ints, j, k, f, g, l, is)

module _ (r : Replay) (lab : Labels) (b : ℤ) (ends_after : (e : ℕ) → e < r.edges
    → (b ≤ℤ (r.edge e).low.x) × (b ≤ℤ (r.edge e).high.x)) where
  abbrev After : Point → Type 0
  After p = b ≤ℤ p.x

  way_after : (h : Half) → edge_of h < r.edges → After (way r.edge h).low
  way_after (under e) l = (ends_after e l).1
  way_after (over e) l = (ends_after e l).0

  each_after : (hs : List Half) → ((h : Half) → Has h hs → edge_of h < r.edges) → (e : Edge)
      → Has e (map (way r.edge) hs) → After e.low
  each_after [] f e m = absurd m
  each_after (h ∷ hs) f e (inl q) =
      subst (λ (x : Edge). After x.low) (sym q) (way_after h (f h (inl refl)))
  each_after (h ∷ hs) f e (inr m) = each_after hs (λ g n. f g (inr n)) e m

  pub left_of_tube : (t : ℕ) (a : Point) (k : Bay) (ks : List Bay) (hs : List Half)
      → IsDrawnTube r lab t a k ks hs → (z : Vector) → Place z → z.x <ℤ (b *ℤ z.n)
      → InSomeTile (tiles a (k ∷ ks)) z → ⊥
  left_of_tube t a k ks hs tube z Z left i =
      let corners = tiles_corners After a (k ∷ ks)
      (λ e m. each_after hs tube.faced.fits e
      (subst (λ (es : List Edge). Has e es) tube.bounds m)) in
      not_left b i.0 z Z
      (each_has (λ t. After t.a × After t.b × After t.c) (tiles a (k ∷ ks)) i.0 corners i.1) i.2
      left

module _ (w : ℤ) (d : Plan) (bays : ℕ → List Bay) (m : ℕ) (E : ℕ → Edge) (steps : List Step)
    (lab : Labels) (within : ℕ → Half) (inside outside : ℕ → ℕ)
    (swept : WeighedRun w m E steps) (is : IsTubedRun d bays m E steps)
    (L : AreTubeLabels d bays (replay w m E steps) lab within inside outside) where
  abbrev r : Replay
  r = replay w m E steps

  abbrev T : Tubes
  T = tubes d bays within inside outside

  whole : IsWhole r
  whole = swept_whole w m E steps swept

  all : AreTubes r lab T (MeetsArc d)
  all = are_tubes w d bays m E steps lab within inside outside swept is L

  alone : (z : Vector) → Place z → IsOff d z → IsClear d z z
  alone z Z off i l h = off i l ((hits_alone (curve d i) z Z).0 h)

  -- each place off the curves has a label
  pub off_label : (z : Vector) → Place z → IsOff d z → (l : ℕ) × HasLabel r lab T z l
  off_label z Z off =
      has_label r whole lab L.matched T (MeetsArc d) all z z Z Z
      (clear_free w d bays m E steps lab within inside outside swept is L z z Z Z (alone z Z off)) z
      (way_start z z)

  -- a segment that hits no curve keeps it
  pub clear_label : (p q : Vector) (l k : ℕ) → Place p → Place q → IsClear d p q
      → HasLabel r lab T p l → HasLabel r lab T q k → l ≡ k
  clear_label p q l k P Q clear =
      label_kept r whole lab L.matched T (MeetsArc d) all p q P Q
      (clear_free w d bays m E steps lab within inside outside swept is L p q P Q clear) l k

  path_label : (p q : Vector) (l k : ℕ) → Place p → Place q → Path d p q → HasLabel r lab T p l
      → HasLabel r lab T q k → l ≡ k
  path_label _ _ l k P Q (ends p q same off) =
      clear_label p q l k P Q
      (λ i n h. off i n
      (on_same (curve d i) q p Q P (same_sym p q same) (hits_same (curve d i) p q P Q same h)))
  path_label _ _ l k P Q (goes p x q off X clear path) = λ hp hq.
      let h = off_label x X (path_start x q X path) in
      clear_label p x l h.0 P X clear hp h.1 ∙ path_label x q h.0 k X Q path h.1 hq
    where
      path_start : (x q : Vector) → Place x → Path d x q → IsOff d x
      path_start _ _ X (ends x q same off) = off
      path_start _ _ X (goes x y q off Y clear path) = off

  -- joined places have one label
  pub joined_label : (p q : Vector) (l k : ℕ) → Place p → Place q → Joined d p q
      → HasLabel r lab T p l → HasLabel r lab T q k → l ≡ k
  joined_label p q l k P Q joined = path_label p q l k P Q ((joined_is_path d p q P).0 joined)

  -- to the left of all edges the label is 0
  left_label : (b : ℤ) → ((e : ℕ) → e < m → (b ≤ℤ (E e).low.x) × (b ≤ℤ (E e).high.x))
      → (q : Vector) (k : ℕ) → Place q → q.x <ℤ (b *ℤ q.n) → HasLabel r lab T q k → k ≡ 0
  left_label b after q k Q left (inl h) =
      absurd (left_of_tube r lab b after (T.label h.0) (T.first h.0) (T.bay h.0) (T.bays h.0)
      (T.halves h.0) (all.tube h.0 h.1) q Q left h.2)
  left_label b after q k Q left (inr h) =
      h.2 ∙ border_label r whole.run whole.law lab L.matched (sector r q)
      (cell_is r whole.run whole.law q Q) (inr (left_border r whole.run whole.law b after q Q left))

  -- an outer place has the label 0
  pub outer_label : (p : Vector) (l : ℕ) → Place p → IsOuter d p → HasLabel r lab T p l → l ≡ 0
  outer_label p l P out h =
      let b = low_ends E m in
      let q = (outer_is_path d p P).0 out b.0 in
      let k = off_label q.0 q.1 (path_end p q.0 P q.1 q.2) in
      path_label p q.0 l k.0 P q.1 q.2 h k.1 ∙ left_label b.0 b.1 q.0 k.0 q.1 q.3 k.1
    where
      path_end : (p q : Vector) → Place p → Place q → Path d p q → IsOff d q
      path_end _ _ P Q (ends p q same off) =
          λ i l on. off i l (on_same (curve d i) q p Q P (same_sym p q same) on)
      path_end _ _ P Q (goes p x q off X clear path) = path_end x q X Q path
