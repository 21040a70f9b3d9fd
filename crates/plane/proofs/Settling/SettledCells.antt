-- In a settled drawing the half-edges beside the cells of a tube are exactly those that face the
-- tube from within.
use Rattle.std.proofs.Common.{◌≡◌, ℕ, ◌<◌, inl, inr, List, [], ◌∷◌, map, ℤ, pos, ◌+ℤ◌, ◌*ℤ◌, ◌-ℤ◌}
use Rattle.std.proofs.Common.{◌<ℤ◌, ◌≤ℤ◌, refl, arith, ap, sym, ◌∙◌, subst}
use Rattle.std.proofs.lemmas.Int.{ints}
use Rattle.plane.specs.declared.kinds.Point.{Point}
use Rattle.plane.specs.Lists.{Has, Once}
use Rattle.plane.specs.Forms.Vectors.{Vector, Place, Same, Between, mix, point, Edge, side, On}
use Rattle.plane.specs.Forms.Vectors.{HitsEdge}
use Rattle.plane.specs.Forms.Meets.{IsEnd}
use Rattle.plane.specs.Rule.Plans.{Plan, IsHalfArc}
use Rattle.plane.specs.Runs.Steps.{Step, WeighedRun}
use Rattle.plane.specs.Faces.Replays.{Replay, replay, IsOffEdges}
use Rattle.plane.specs.Faces.Cells.{sector}
use Rattle.plane.specs.Faces.Halves.{Half, under, over, edge_of, twin, Beside}
use Rattle.plane.specs.Tubes.Windings.{Tile, IsLeftTile, bounds}
use Rattle.plane.specs.Tubes.Facing.{way}
use Rattle.plane.specs.CurveRuns.Extended.{IsOnWay}
use Rattle.plane.proofs.Settling.EdgesAndTubes.{tiles_of, EdgeList, IsEdgeList}
use Rattle.plane.proofs.Settling.EdgesSettled.{IsSettled}
use Rattle.plane.proofs.Linear.EdgePlaces.{place_point}
use Rattle.plane.proofs.ListLemmas.Lists.{each_has}
use Rattle.plane.proofs.Algebra.Laws.{weight_at_most}
use Rattle.plane.proofs.Algebra.Ring.{at, num, plus, minus, times, vars, ring}
use Rattle.plane.proofs.Linear.Vectors.{side-mix}
use Rattle.plane.proofs.Linear.Signs.{mix_place, on_between, between_back}
use Rattle.plane.proofs.Covers.SamePlace.{same_sym}
use Rattle.plane.proofs.Linear.Clear.{on_same, mix_back}
use Rattle.plane.proofs.Windings.Ways.{way_mix, way_start, way_end, way_place}
use Rattle.plane.proofs.FaceLemmas.Crossings.{crossing_segment}
use Rattle.plane.proofs.Windings.CommonPlaces.{decide_number}
use Rattle.plane.proofs.Windings.Whole.{IsWhole, swept_whole}
use Rattle.plane.proofs.Windings.OneTriangle.{IsWithin, within_triangle}
use Rattle.plane.proofs.Windings.TileCorners.{arrow_end, edge_arrow}
use Rattle.plane.proofs.OneTube.TubeExits.{kept_in, side_a_within, side_b_within, side_c_within}
use Rattle.plane.proofs.OneTube.BoundSides.{IsSideOf, bound_side, near_inside, right_near, opposite}
use Rattle.plane.proofs.OneTube.BoundSides.{Some, Twice, Ends, has_some, bounds_twice}
use Rattle.plane.proofs.ListLemmas.Lists.{has_map}
use Rattle.plane.proofs.Settling.SettledEdges.{Inside, all_left, bound_edge, low_on, high_on}

-- ---- two edges at each corner
twice_halves : (E : ℕ → Edge) (q : Point) (hs : List Half) → Twice (Ends q) (map (way E) hs)
    → Twice (λ g. IsEnd (E (edge_of g)) q) hs
twice_halves E q [] t = t
twice_halves E q (g ∷ hs) (inl (a, s)) = inl (arrow_end E g q a, some hs s)
  where
    some : (hs : List Half) → Some (Ends q) (map (way E) hs)
        → Some (λ g. IsEnd (E (edge_of g)) q) hs
    some [] s = s
    some (x ∷ xs) (inl a) = inl (arrow_end E x q a)
    some (x ∷ xs) (inr s) = inr (some xs s)
twice_halves E q (g ∷ hs) (inr t) = inr (twice_halves E q hs t)

some_has : (P : Half → Type 0) (hs : List Half) → Some P hs → (g : Half) × Has g hs × P g
some_has P [] s = absurd s
some_has P (g ∷ hs) (inl p) = (g, inl refl, p)
some_has P (g ∷ hs) (inr s) = let r = some_has P hs s in (r.0, inr r.1, r.2)

pick : (P : Half → Type 0) (hs : List Half) (e : ℕ) → Once (map edge_of hs) → Twice P hs
    → (g : Half) × Has g hs × (edge_of g ≡ e → ⊥) × P g
pick P [] e o t = absurd t
pick P (g ∷ hs) e o (inr t) = let r = pick P hs e o.1 t in (r.0, inr r.1, r.2, r.3)
pick P (g ∷ hs) e o (inl (a, s)) = elim (decide_number (edge_of g) e) [
  | inr n ↦ (g, inl refl, n, a)
  | inl q ↦ let r = some_has P hs s in (
    r.0,
    inr r.1,
    (λ x. o.0 (subst (λ (k : ℕ). Has k (map edge_of hs)) (x ∙ sym q)
        (has_map edge_of r.0 hs r.1))),
    r.2,
  )
]

-- ---- the sides of a half-edge's arrow
pub side-twin : (E : ℕ → Edge) (g : Half) (v : Vector)
    → side (way E (twin g)) v ≡ pos 0 -ℤ side (way E g) v
side-twin E (over e) v = opposite (E e).high (E e).low v
side-twin E (under e) v = opposite (E e).low (E e).high v

way_line : (w : ℤ) (E : ℕ → Edge) (g : Half) (v : Vector) → On w (E (edge_of g)) v
    → side (way E g) v ≡ pos 0
way_line w E (over e) v on = on.line
way_line w E (under e) v on =
    let f = opposite (E e).high (E e).low v in let k = on.line in omega (arith, ints, f, k)

way_between : (E : ℕ → Edge) (g : Half) (v : Vector)
    → Between v (point (E (edge_of g)).low) (point (E (edge_of g)).high)
    → Between v (point (way E g).low) (point (way E g).high)
way_between E (over e) v b = b
way_between E (under e) v b = between_back v (point (E e).low) (point (E e).high) b

side_in : (e : Edge) (t : Tile) (z : Vector) → IsSideOf e t → Place z → IsLeftTile t
    → Between z (point e.low) (point e.high) → IsWithin t z
side_in e t z (inl s) Z left b =
    side_a_within t z Z left (subst (λ (f : Edge). Between z (point f.low) (point f.high)) s b)
side_in e t z (inr (inl s)) Z left b =
    side_b_within t z Z left (subst (λ (f : Edge). Between z (point f.low) (point f.high)) s b)
side_in e t z (inr (inr s)) Z left b =
    side_c_within t z Z left (subst (λ (f : Edge). Between z (point f.low) (point f.high)) s b)

-- a mix of two places on one side of a line is on that side
mix_left : (s a t b v : ℤ) → pos 0 ≤ℤ s → pos 0 ≤ℤ t → pos 0 <ℤ (s +ℤ t) → pos 0 <ℤ a → pos 0 <ℤ b
    → v ≡ (s *ℤ a) +ℤ (t *ℤ b) → v ≡ pos 0 → ⊥
mix_left s a t b v hs ht some ha hb e z =
    let x = weight_at_most s a hs ha in
    let y = weight_at_most t b ht hb in omega (arith, ints, x, y, some, e, z)

mix_right : (s a t b v : ℤ) → pos 0 ≤ℤ s → pos 0 ≤ℤ t → pos 0 <ℤ (s +ℤ t) → a <ℤ pos 0 → b <ℤ pos 0
    → v ≡ (s *ℤ a) +ℤ (t *ℤ b) → v ≡ pos 0 → ⊥
mix_right s a t b v hs ht some ha hb e z =
    let x = weight_at_most s (pos 0 -ℤ a) hs (omega (arith, ints, ha)) in
    let y = weight_at_most t (pos 0 -ℤ b) ht (omega (arith, ints, hb)) in
    let i = ring
    (plus (times (at 0) (minus (num (pos 0)) (at 1)))
    (times (at 2) (minus (num (pos 0)) (at 3))))
    (minus (num (pos 0)) (plus (times (at 0) (at 1)) (times (at 2) (at 3))))
    (vars (s ∷ a ∷ t ∷ b ∷ [])) refl in
    omega (arith, ints, x, y, i, some, e, z)

module _ (d : Plan) (l : EdgeList) (is : IsEdgeList d l) (settled : IsSettled d l) (w : ℤ)
    (steps : List Step) (swept : WeighedRun w l.edges l.edge steps) where
  abbrev r : Replay
  r = replay w l.edges l.edge steps

  whole : IsWhole r
  whole = swept_whole w l.edges l.edge steps swept

  -- a segment across the edge of a half-edge, from its left to its right, that meets no other edge
  pub record IsAcross (g : Half) (s o : Vector) : Type 0 where
    pub s_place : Place s
    pub o_place : Place o
    pub s_off : IsOffEdges r s
    pub o_off : IsOffEdges r o
    pub left : pos 0 <ℤ side (way l.edge g) s
    pub right : side (way l.edge g) o <ℤ pos 0
    pub z : Vector
    pub z_on : IsOnWay s o z
    pub z_edge : On w (l.edge (edge_of g)) z
    pub clear : (x : Vector) → IsOnWay s o x → (f : ℕ) → f < l.edges → (f ≡ edge_of g → ⊥)
        → On w (l.edge f) x → ⊥
    pub s_beside : Beside r g (sector r s)
    pub o_beside : Beside r (twin g) (sector r o)

  way_back : (p q x : Vector) → IsOnWay p q x → IsOnWay q p x
  way_back p q x k =
      let some = k.some in
      record {
        s = k.t;
        t = k.s;
        s_least = k.t_least;
        t_least = k.s_least;
        some = omega (arith, ints, some);
        is = k.is ∙ mix_back k.s k.t p q;
      }

  pub way_hits : (p q x : Vector) → Place p → Place q → IsOnWay p q x → (f : ℕ) → On w (l.edge f) x
      → HitsEdge w p q (l.edge f)
  way_hits p q x P Q k f on = record {
    z = x;
    place = way_place p q x P Q k;
    between = subst (λ (v : Vector). Between v p q) (sym k.is) (record {
      s = k.s;
      t = k.t;
      s_least = k.s_least;
      t_least = k.t_least;
      some = k.some;
      is = record { x = refl; y = refl };
    });
    on = on;
  }

  pub across_edge : (g : Half) → edge_of g < l.edges → (s : Vector) × (o : Vector) × IsAcross g s o
  across_edge (over e) f =
      let (p, q, x, bp, bq) = crossing_segment r whole.run whole.law e f in
      let b = x.hits.between in
      let z = mix b.s p b.t q in
      let Z = mix_place b.s p b.t q x.p_place x.q_place b.s_least b.t_least b.some in (
        p,
        q,
        record {
          s_place = x.p_place;
          o_place = x.q_place;
          s_off = x.p_off;
          o_off = x.q_off;
          left = x.above;
          right = x.below;
          z = z;
          z_on = record {
            s = b.s;
            t = b.t;
            s_least = b.s_least;
            t_least = b.t_least;
            some = b.some;
            is = refl;
          };
          z_edge = on_same w (l.edge e) x.hits.z z b.is x.hits.place Z x.hits.on;
          clear = λ y k h h2 differ on. x.clear h h2 differ
              (way_hits p q y x.p_place x.q_place k h on);
          s_beside = bp;
          o_beside = bq;
        },
      )
  across_edge (under e) f =
      let (p, q, x, bp, bq) = crossing_segment r whole.run whole.law e f in
      let b = x.hits.between in
      let z = mix b.s p b.t q in
      let Z = mix_place b.s p b.t q x.p_place x.q_place b.s_least b.t_least b.some in
      let a = x.above in
      let c = x.below in
      let fp = opposite (l.edge e).high (l.edge e).low p in
      let fq = opposite (l.edge e).high (l.edge e).low q in (
        q,
        p,
        record {
          s_place = x.q_place;
          o_place = x.p_place;
          s_off = x.q_off;
          o_off = x.p_off;
          left = omega (arith, ints, c, fq);
          right = omega (arith, ints, a, fp);
          z = z;
          z_on = way_back p q z (record {
            s = b.s;
            t = b.t;
            s_least = b.s_least;
            t_least = b.t_least;
            some = b.some;
            is = refl;
          });
          z_edge = on_same w (l.edge e) x.hits.z z b.is x.hits.place Z x.hits.on;
          clear = λ y k h h2 differ on. x.clear h h2 differ
              (way_hits p q y x.p_place x.q_place (way_back q p y k) h on);
          s_beside = bq;
          o_beside = bp;
        },
      )

  edge_twin : (g : Half) → edge_of (twin g) ≡ edge_of g
  edge_twin (over e) = refl
  edge_twin (under e) = refl

  twin_twin : (g : Half) → twin (twin g) ≡ g
  twin_twin (over e) = refl
  twin_twin (under e) = refl

  pub across_back : (g : Half) (s o : Vector) → IsAcross g s o → IsAcross (twin g) o s
  across_back g s o a =
      let fs = side-twin l.edge g s in
      let fo = side-twin l.edge g o in
      let ls = a.left in
      let lo = a.right in
      record {
        s_place = a.o_place;
        o_place = a.s_place;
        s_off = a.o_off;
        o_off = a.s_off;
        left = omega (arith, ints, fo, lo);
        right = omega (arith, ints, fs, ls);
        z = a.z;
        z_on = way_back s o a.z a.z_on;
        z_edge = subst (λ (e : ℕ). On w (l.edge e) a.z) (sym (edge_twin g)) a.z_edge;
        clear = λ x k f h differ on. a.clear x (way_back o s x k) f h
            (λ q. differ (q ∙ sym (edge_twin g))) on;
        s_beside = a.o_beside;
        o_beside = subst (λ (h : Half). Beside r h (sector r s)) (sym (twin_twin g)) a.s_beside;
      }

  -- another edge of the tube at a corner
  other_end : (i : ℕ) (h : IsHalfArc d i) (g : Half) → Has g (l.tube i).halves → (q : Point)
      → IsEnd (l.edge (edge_of g)) q
      → (f : Half) × Has f (l.tube i).halves × (edge_of f ≡ edge_of g → ⊥)
      × IsEnd (l.edge (edge_of f)) q
  other_end i h g m q x =
      let t = is.tubes i h in
      let a = edge_arrow l.edge (bounds (l.tube i).arc.from ((l.tube i).bay ∷ (l.tube i).bays))
      (l.tube i).halves g q t.bounds m x in
      let two = bounds_twice (l.tube i).arc.from (l.tube i).bay (l.tube i).bays q
      (has_some (Ends q) a.0 (bounds (l.tube i).arc.from ((l.tube i).bay ∷ (l.tube i).bays)) a.1
      a.2) in
      pick (λ f. IsEnd (l.edge (edge_of f)) q) (l.tube i).halves (edge_of g) t.once
      (twice_halves l.edge q (l.tube i).halves
      (subst (λ (es : List Edge). Twice (Ends q) es) t.bounds two))

  pub end_on : (e : ℕ) → e < l.edges → (q : Point) → IsEnd (l.edge e) q → On w (l.edge e) (point q)
  end_on e f q (inl x) =
      subst (λ (p : Point). On w (l.edge e) (point p)) x (low_on w (l.edge e) (whole.run.rise e f))
  end_on e f q (inr x) =
      subst (λ (p : Point). On w (l.edge e) (point p)) x (high_on w (l.edge e) (whole.run.rise e f))

  -- ---- across an edge of the tube
  module _ (i : ℕ) (h : IsHalfArc d i) (g : Half) (m : Has g (l.tube i).halves) (s o : Vector)
      (a : IsAcross g s o) where
    fits : edge_of g < l.edges
    fits = (is.tubes i h).fits g m

    Z : Place a.z
    Z = way_place s o a.z a.s_place a.o_place a.z_on

    -- the crossing is no end of the edge
    no_end : (q : Point) → IsEnd (l.edge (edge_of g)) q → Same a.z (point q) → ⊥
    no_end q x e =
        let f = other_end i h g m q x in
        let k = (is.tubes i h).fits f.0 f.1 in
        a.clear a.z a.z_on (edge_of f.0) k f.2
        (on_same w (l.edge (edge_of f.0)) (point q) a.z (same_sym a.z (point q) e)
        (place_point q) Z (end_on (edge_of f.0) k q f.3))

    -- a part of the way that does not come to the edge meets no bound of the tube
    part_misses : (p q : Vector) → Place p → Place q → IsOnWay s o p → IsOnWay s o q
        → ((x : Vector) → IsOnWay p q x → side (way l.edge g) x ≡ pos 0 → ⊥)
        → (x : Vector) → IsOnWay p q x → (e : Edge)
        → Has e (bounds (l.tube i).arc.from ((l.tube i).bay ∷ (l.tube i).bays))
        → Between x (point e.low) (point e.high) → ⊥
    part_misses p q P Q ip iq aside x k e n b =
        let X = way_place p q x P Q k in
        let j = bound_edge d l is settled w steps swept i h e n x X b in
        let way_x = subst (λ (v : Vector). IsOnWay s o v) (sym k.is)
        (way_mix s o p q k.s k.t k.s_least k.t_least k.some ip iq) in
        elim (decide_number (edge_of j.0) (edge_of g)) [
          | inl q ↦ aside x k (way_line w l.edge g x (subst (λ (f : ℕ). On w (l.edge f) x) q j.2))
          | inr n ↦ a.clear x way_x (edge_of j.0) ((is.tubes i h).fits j.0 j.1) n j.2
        ]

    line_zero : side (way l.edge g) a.z ≡ pos 0
    line_zero = way_line w l.edge g a.z a.z_edge

    on_bound : Between a.z (point (way l.edge g).low) (point (way l.edge g).high)
    on_bound = way_between l.edge g a.z
        (on_between w (l.edge (edge_of g)) a.z (whole.run.rise (edge_of g) fits) Z a.z_edge)

    has_bound : Has (way l.edge g) (bounds (l.tube i).arc.from ((l.tube i).bay ∷ (l.tube i).bays))
    has_bound = subst (λ (es : List Edge). Has (way l.edge g) es) (sym (is.tubes i h).bounds)
        (has_map (way l.edge) g (l.tube i).halves m)

    no_low : Same a.z (point (way l.edge g).low) → ⊥
    no_low e = no_end (way l.edge g).low (arrow_end l.edge g (way l.edge g).low (inl refl)) e

    no_high : Same a.z (point (way l.edge g).high) → ⊥
    no_high e = no_end (way l.edge g).high (arrow_end l.edge g (way l.edge g).high (inr refl)) e

    pub left_inside : Inside d l is settled w steps swept i s
    left_inside =
        let t = bound_side (l.tube i).arc.from (l.tube i).bay (l.tube i).bays
        (way l.edge g) has_bound in
        let left = each_has (λ t. IsLeftTile t) (tiles_of (l.tube i)) t.0
        (all_left d l is settled w steps swept i h) t.1 in
        let within = side_in (way l.edge g) t.0 a.z t.2 Z left on_bound in
        let n = near_inside t.0 (way l.edge g) a.z s t.2 Z a.s_place left within line_zero no_low
        no_high a.left in
        let y = mix n.0 a.z (pos 1) s in
        let p = n.1 in
        let weak : pos 0 ≤ℤ n.0 = omega (arith, ints, p) in
        let some : pos 0 <ℤ (n.0 +ℤ pos 1) = omega (arith, ints, p) in
        let Y = mix_place n.0 a.z (pos 1) s Z a.s_place weak (omega (arith, ints)) some in
        let on_y = way_mix s o a.z s n.0 (pos 1) weak (omega (arith, ints)) some a.z_on
        (way_start s o) in
        let side_y : pos 0 <ℤ side (way l.edge g) y =
        let e = side-mix (way l.edge g) n.0 a.z (pos 1) s in
        let f : n.0 *ℤ side (way l.edge g) a.z ≡ pos 0 = ap (λ (v : ℤ). n.0 *ℤ v) line_zero
        ∙ omega (arith, ints) in
        let k = a.left in
        omega (arith, ints, e, f, k) in
        kept_in y s Y a.s_place (l.tube i).arc.from ((l.tube i).bay ∷ (l.tube i).bays)
        (all_left d l is settled w steps swept i h)
        (part_misses y s Y a.s_place on_y (way_start s o)
        (λ x k zero. mix_left k.s (side (way l.edge g) y) k.t (side (way l.edge g) s)
        (side (way l.edge g) x) k.s_least k.t_least k.some side_y a.left
        (ap (λ (v : Vector). side (way l.edge g) v) k.is
        ∙ side-mix (way l.edge g) k.s y k.t s) zero))
        (t.0, t.1, within_triangle t.0 y Y left n.2)

    pub right_outside : Inside d l is settled w steps swept i o → ⊥
    right_outside inside =
        let tube = is.tubes i h in
        let n = right_near (l.tube i).arc (l.tube i).bay (l.tube i).bays tube.tube tube.right
        (way l.edge g) has_bound a.z o Z a.o_place on_bound no_low no_high line_zero a.right in
        let y = mix n.0 a.z (pos 1) o in
        let p = n.1 in
        let weak : pos 0 ≤ℤ n.0 = omega (arith, ints, p) in
        let some : pos 0 <ℤ (n.0 +ℤ pos 1) = omega (arith, ints, p) in
        let Y = mix_place n.0 a.z (pos 1) o Z a.o_place weak (omega (arith, ints)) some in
        let on_y = way_mix s o a.z o n.0 (pos 1) weak (omega (arith, ints)) some a.z_on
        (way_end s o) in
        let side_y : side (way l.edge g) y <ℤ pos 0 =
        let e = side-mix (way l.edge g) n.0 a.z (pos 1) o in
        let f : n.0 *ℤ side (way l.edge g) a.z ≡ pos 0 = ap (λ (v : ℤ). n.0 *ℤ v) line_zero
        ∙ omega (arith, ints) in
        let k = a.right in
        omega (arith, ints, e, f, k) in
        n.2 (kept_in o y a.o_place Y (l.tube i).arc.from ((l.tube i).bay ∷ (l.tube i).bays)
        (all_left d l is settled w steps swept i h)
        (part_misses o y a.o_place Y (way_end s o) on_y
        (λ x k zero. mix_right k.s (side (way l.edge g) o) k.t (side (way l.edge g) y)
        (side (way l.edge g) x) k.s_least k.t_least k.some a.right side_y
        (ap (λ (v : Vector). side (way l.edge g) v) k.is
        ∙ side-mix (way l.edge g) k.s o k.t y) zero))
        inside)
