-- In a settled drawing no edge starts between the two bounds of a tube at its first corner, so the
-- first of them comes next after the last one.
use Rattle.std.proofs.Common.{◌≡◌, ℕ, ◌<◌, ◌⊎◌, inl, inr, List, [], ◌∷◌, ℤ, pos, ◌+ℤ◌, ◌*ℤ◌, ◌-ℤ◌}
use Rattle.std.proofs.Common.{◌<ℤ◌, ◌≤ℤ◌, refl, arith, ap, sym, ◌∙◌, subst}
use Rattle.std.proofs.lemmas.Int.{ints}
use Rattle.plane.specs.declared.kinds.Point.{Point}
use Rattle.plane.specs.Lists.{Has}
use Rattle.plane.specs.Forms.Vectors.{Vector, Place, Same, mix, point, Edge, side}
use Rattle.plane.specs.Forms.Meets.{IsEnd}
use Rattle.plane.specs.Rule.Plans.{Plan, IsHalfArc}
use Rattle.plane.specs.Runs.Steps.{Step, Run, WeighedRun}
use Rattle.plane.specs.Faces.Replays.{Replay, replay}
use Rattle.plane.specs.Faces.Halves.{Half, under, over, edge_of, twin}
use Rattle.plane.specs.Faces.Classes.{Next}
use Rattle.plane.specs.Faces.Directions.{Direction, origin, direction, TurnsLeft, Comes}
use Rattle.plane.specs.Faces.Directions.{IsClockwiseNext}
use Rattle.plane.specs.Tubes.Bays.{Bay}
use Rattle.plane.specs.Tubes.Windings.{arrow, back, Tile, IsLeftTile}
use Rattle.plane.specs.Tubes.Facing.{way}
use Rattle.plane.proofs.Settling.EdgesAndTubes.{EdgeList, IsEdgeList}
use Rattle.plane.proofs.Settling.EdgesSettled.{IsSettled}
use Rattle.plane.proofs.ListLemmas.Points.{point_eq}
use Rattle.plane.proofs.Algebra.Ring.{at, num, plus, minus, times, vars, ring}
use Rattle.plane.proofs.Algebra.Scaling.{cancel_zero}
use Rattle.plane.proofs.Linear.Vectors.{side-low, side-high, side-mix}
use Rattle.plane.proofs.Linear.OnePlace.{side_same}
use Rattle.plane.proofs.Windings.CommonPlaces.{decide_number}
use Rattle.plane.proofs.Turning.NextExists.{next_some}
use Rattle.plane.proofs.Turning.NextOnly.{next_has}
use Rattle.plane.proofs.Turning.RunFans.{next_is_clockwise}
use Rattle.plane.proofs.Windings.Whole.{IsWhole, swept_whole}
use Rattle.plane.proofs.Windings.OneTriangle.{side_a, side_b, IsWithin, within_triangle, area_next}
use Rattle.plane.proofs.Turning.FanWedges.{InWedge, between, before, after}
use Rattle.plane.proofs.Windings.TileCorners.{arrow_end}
use Rattle.plane.proofs.Settling.DrawnTubes.{decide_half, of_tube}
use Rattle.plane.proofs.OneTube.BoundSides.{outweighs, large, large_first, large_positive}
use Rattle.plane.proofs.OneTube.TubeArrows.{origin_way, origin_twin, from_to, direction_way}
use Rattle.plane.proofs.Settling.SettledEdges.{all_left, edge_out, on_mix}
use Rattle.plane.proofs.Settling.SettledCells.{end_on}
use Rattle.plane.proofs.Turning.HalfWays.{not_itself}
use Rattle.plane.proofs.Settling.SettledChains.{at_corner, by_edge, twin_other}

-- ---- sides at a corner
cross : (a b c : Point) → ℤ
cross a b c = ((b.x -ℤ a.x) *ℤ (c.y -ℤ a.y)) -ℤ ((b.y -ℤ a.y) *ℤ (c.x -ℤ a.x))

side_first : (a b c : Point)
    → side (arrow a b) (point c) ≡ ((b.x -ℤ a.x) *ℤ (c.y -ℤ a.y)) -ℤ ((b.y -ℤ a.y) *ℤ (c.x -ℤ a.x))
unfolding side
side_first a b c =
    ring (minus (times (minus (at 2) (at 0)) (minus (at 5) (times (at 1) (num (pos 1)))))
    (times (minus (at 3) (at 1)) (minus (at 4) (times (at 0) (num (pos 1))))))
    (minus (times (minus (at 2) (at 0)) (minus (at 5) (at 1)))
    (times (minus (at 3) (at 1)) (minus (at 4) (at 0))))
    (vars (a.x ∷ a.y ∷ b.x ∷ b.y ∷ c.x ∷ c.y ∷ [])) refl

side_last : (a b c : Point)
    → side (arrow b a) (point c) ≡ ((c.x -ℤ a.x) *ℤ (b.y -ℤ a.y)) -ℤ ((c.y -ℤ a.y) *ℤ (b.x -ℤ a.x))
unfolding side
side_last a b c =
    ring (minus (times (minus (at 0) (at 2)) (minus (at 5) (times (at 3) (num (pos 1)))))
    (times (minus (at 1) (at 3)) (minus (at 4) (times (at 2) (num (pos 1))))))
    (minus (times (minus (at 4) (at 0)) (minus (at 3) (at 1)))
    (times (minus (at 5) (at 1)) (minus (at 2) (at 0))))
    (vars (a.x ∷ a.y ∷ b.x ∷ b.y ∷ c.x ∷ c.y ∷ [])) refl

way_twin : (E : ℕ → Edge) (g : Half) → way E (twin g) ≡ back (way E g)
way_twin E (over e) = refl
way_twin E (under e) = refl

-- ---- a place near the corner in the direction of e
module _ (a k o e : Point) (left : IsLeftTile (record { a = a; b = k; c = o }))
    (first : pos 0 <ℤ side (arrow a k) (point e)) (last : pos 0 <ℤ side (arrow o a) (point e)) where
  abbrev t : Tile
  t = record { a = a; b = k; c = o }

  pub weight : ℤ
  weight = large (side_b t (point e)) (pos 0)

  abbrev pub near_corner : Vector
  near_corner = mix weight (point a) (pos 1) (point e)

  pub weight_positive : pos 0 <ℤ weight
  unfolding weight
  weight_positive = large_positive (side_b t (point e)) (pos 0)

  weight_large : (pos 0 -ℤ side_b t (point e)) ≤ℤ weight
  unfolding weight
  weight_large = large_first (side_b t (point e)) (pos 0)

  pub near_place : Place near_corner
  near_place = let m = weight_positive in omega (arith, ints, m)

  side_a_near : side_a t near_corner ≡ side_a t (point e)
  side_a_near =
      let f = side-mix (arrow a k) weight (point a) (pos 1) (point e) in
      let z : weight *ℤ side (arrow a k) (point a)
      ≡ pos 0 = ap (λ (v : ℤ). weight *ℤ v) (side-low (arrow a k)) ∙ omega (arith, ints) in
      omega (arith, ints, f, z)

  pub near_within : IsWithin t near_corner
  near_within =
      let m = weight_positive in
      let fa = side_a_near in
      let fb = side-mix (arrow k o) weight (point a) (pos 1) (point e) in
      let fc = side-mix (arrow o a) weight (point a) (pos 1) (point e) in
      let zc : weight *ℤ side (arrow o a) (point a)
      ≡ pos 0 = ap (λ (v : ℤ). weight *ℤ v) (side-high (arrow o a)) ∙ omega (arith, ints) in
      let area = area_next t in
      let b = outweighs weight (side (arrow k o) (point a))
      (side (arrow k o) (point e)) weight_large (omega (arith, ints, m))
      (omega (arith, ints, area, left)) in (
        omega (arith, ints, fa, first),
        omega (arith, ints, fb, b),
        omega (arith, ints, fc, zc, last),
      )

  pub near_not_corner : Same near_corner (point a) → ⊥
  near_not_corner s =
      let f = side_same (arrow a k) near_corner (point a) s in
      let z : near_corner.n *ℤ side (arrow a k) (point a)
      ≡ pos 0 = ap (λ (v : ℤ). near_corner.n *ℤ v) (side-low (arrow a k))
      ∙ omega (arith, ints) in
      let g = side_a_near in
      omega (arith, ints, f, z, g, first)

  pub near_not_end : Same near_corner (point e) → ⊥
  near_not_end s =
      let m = weight_positive in
      let q : a ≡ e = point_eq a e (one weight a.x e.x m s.x) (one weight a.y e.y m s.y) in
      let z = subst (λ (p : Point). side (arrow a k) (point p) ≡ pos 0) q (side-low (arrow a k)) in
      omega (arith, ints, z, first)
    where
      one : (w a e : ℤ) → pos 0 <ℤ w
          → ((w *ℤ a) +ℤ (pos 1 *ℤ e)) *ℤ pos 1 ≡ e *ℤ ((w *ℤ pos 1) +ℤ (pos 1 *ℤ pos 1)) → a ≡ e
      one w a e h f =
          let i = ring
          (minus (times (plus (times (at 0) (at 1)) (times (num (pos 1)) (at 2))) (num (pos 1)))
          (times (at 2)
          (plus (times (at 0) (num (pos 1))) (times (num (pos 1)) (num (pos 1))))))
          (times (at 0) (minus (at 1) (at 2))) (vars (w ∷ a ∷ e ∷ [])) refl in
          let z = cancel_zero w (a -ℤ e) h (omega (arith, ints, i, f)) in
          omega (arith, ints, z)

module _ (d : Plan) (l : EdgeList) (is : IsEdgeList d l) (settled : IsSettled d l)
    (steps : List Step) (complete : Run l.edges l.edge steps) (w : ℤ)
    (swept : WeighedRun w l.edges l.edge steps) where
  abbrev r : Replay
  r = replay w l.edges l.edge steps

  whole : IsWhole r
  whole = swept_whole w l.edges l.edge steps swept

  module _ (i : ℕ) (h : IsHalfArc d i) (g o : Half) (mg : Has g (l.tube i).halves)
      (mo : Has o (l.tube i).halves)
      (way_g : arrow (l.tube i).arc.from (l.tube i).bay.inner ≡ way l.edge g)
      (way_o : arrow (l.tube i).bay.outer (l.tube i).arc.from ≡ way l.edge o) where
    abbrev a : Point
    a = (l.tube i).arc.from

    abbrev k : Bay
    k = (l.tube i).bay

    meet : (way l.edge o).high ≡ (way l.edge g).low
    meet = sym (ap (λ (e : Edge). e.high) way_o) ∙ ap (λ (e : Edge). e.low) way_g

    left : IsLeftTile (record { a = a; b = k.inner; c = k.outer })
    left = (all_left d l is settled w steps swept i h).0

    -- directions at the corner
    dir_g : direction l.edge g ≡ from_to (arrow a k.inner)
    dir_g = direction_way l.edge g ∙ sym (ap from_to way_g)

    dir_o : direction l.edge (twin o) ≡ from_to (arrow a k.outer)
    dir_o = direction_way l.edge (twin o) ∙ ap from_to (way_twin l.edge o ∙ sym (ap back way_o))

    turns : TurnsLeft (direction l.edge g) (direction l.edge (twin o))
    turns = subst (λ (u : Direction). TurnsLeft u (direction l.edge (twin o))) (sym dir_g)
        (subst (λ (u : Direction). TurnsLeft (from_to (arrow a k.inner)) u) (sym dir_o)
        (let e = side_first a k.inner k.outer in omega (arith, ints, e, left)))

    -- no other half-edge starts in the wedge
    wedge_empty : (x : Half) → edge_of x < l.edges → origin l.edge x ≡ origin l.edge (twin o)
        → (x ≡ g → ⊥) → (x ≡ twin o → ⊥)
        → InWedge (direction l.edge g) (direction l.edge (twin o)) (direction l.edge x) → ⊥
    wedge_empty x fits at_o not_g not_o wedge = elim (decide_number (l.owner (edge_of x)) i) [
      | inl own ↦
          let m = of_tube d l is i h (edge_of x) fits own in
          let at_x = arrow_end l.edge x (way l.edge g).low
          (inl (sym (origin_way l.edge x) ∙ from_g)) in
          let c = at_corner d l is settled steps complete w swept i h o g mo mg meet m.0 m.1
          (subst (λ (e : ℕ). IsEnd (l.edge e) (way l.edge g).low) (sym m.2) at_x) in
          elim (by_edge d l is settled steps complete w swept i h o g mo mg meet x from_g
          (elim c [ inl e ↦ inl (sym m.2 ∙ e) | inr e ↦ inr (sym m.2 ∙ e) ])) [
            | inl e ↦ not_o e
            | inr e ↦ not_g e
          ]
      | inr other ↦ near other
    ]
      where
        from_g : origin l.edge x ≡ (way l.edge g).low
        from_g = at_o ∙ origin_twin l.edge o ∙ meet

        from_a : (way l.edge x).low ≡ a
        from_a = sym (origin_way l.edge x) ∙ from_g ∙ sym (ap (λ (e : Edge). e.low) way_g)

        e : Point
        e = (way l.edge x).high

        dir_x : direction l.edge x ≡ from_to (arrow a (way l.edge x).high)
        dir_x = direction_way l.edge x
            ∙ ap (λ (p : Point). from_to (arrow p (way l.edge x).high)) from_a

        wedge_at : InWedge (from_to (arrow a k.inner)) (from_to (arrow a k.outer))
            (from_to (arrow a (way l.edge x).high))
        wedge_at = subst
            (λ (u : Direction). InWedge u (from_to (arrow a k.outer))
            (from_to (arrow a (way l.edge x).high))) dir_g
            (subst (λ (u : Direction). InWedge (direction l.edge g) u
            (from_to (arrow a (way l.edge x).high))) dir_o
            (subst (λ (u : Direction). InWedge (direction l.edge g) (direction l.edge (twin o)) u)
            dir_x wedge))

        first : pos 0 <ℤ side (arrow a k.inner) (point (way l.edge x).high)
        first =
            let f = side_first a k.inner (way l.edge x).high in
            let v = wedge_at.0 in omega (arith, ints, f, v)

        last : pos 0 <ℤ side (arrow k.outer a) (point (way l.edge x).high)
        last =
            let f = side_last a k.outer (way l.edge x).high in
            let v = wedge_at.1 in omega (arith, ints, f, v)

        near : (l.owner (edge_of x) ≡ i → ⊥) → ⊥
        near other =
            let y = near_corner a k.inner k.outer (way l.edge x).high left first last in
            let Y = near_place a k.inner k.outer (way l.edge x).high left first last in
            let within = near_within a k.inner k.outer (way l.edge x).high left first last in
            let at_a = end_on d l is settled w steps swept (edge_of x) fits a
            (arrow_end l.edge x a (inl from_a)) in
            let at_e = end_on d l is settled w steps swept (edge_of x) fits (way l.edge x).high
            (arrow_end l.edge x (way l.edge x).high (inr refl)) in
            let m = weight_positive a k.inner k.outer (way l.edge x).high left first last in
            let on = on_mix w (l.edge (edge_of x))
            (weight a k.inner k.outer (way l.edge x).high left first last) (point a) (pos 1)
            (point (way l.edge x).high) (omega (arith, ints, m))
            (omega (arith, ints)) at_a at_e in
            edge_out d l is settled w steps swept i h (edge_of x) fits other y Y on
            (λ s. low_end x from_a s) (λ s. high_end x from_a s) (
              record { a = a; b = k.inner; c = k.outer },
              inl refl,
              within_triangle (record { a = a; b = k.inner; c = k.outer }) y Y left within,
            )
          where
            no_a : Same (near_corner a k.inner k.outer (way l.edge x).high left first last)
                (point a)
                → ⊥
            no_a s = near_not_corner a k.inner k.outer (way l.edge x).high left first last s

            no_e : Same (near_corner a k.inner k.outer (way l.edge x).high left first last)
                (point (way l.edge x).high)
                → ⊥
            no_e s = near_not_end a k.inner k.outer (way l.edge x).high left first last s

            ends : (y : Vector) → (Same y (point a) → ⊥) → (g : Half) → (way l.edge g).low ≡ a
                → (Same y (point (way l.edge g).high) → ⊥)
                → (Same y (point (l.edge (edge_of g)).low) → ⊥)
                × (Same y (point (l.edge (edge_of g)).high) → ⊥)
            ends y na (over e) q ne = (λ s. na (subst (λ (p : Point). Same y (point p)) q s), ne)
            ends y na (under e) q ne = (ne, λ s. na (subst (λ (p : Point). Same y (point p)) q s))

            low_end : (g : Half) → (way l.edge g).low ≡ a
                → Same (near_corner a k.inner k.outer (way l.edge x).high left first last)
                (point (l.edge (edge_of x)).low)
                → ⊥
            low_end g q s =
                (ends (near_corner a k.inner k.outer (way l.edge x).high left first last) no_a x
                from_a no_e).0 s

            high_end : (g : Half) → (way l.edge g).low ≡ a
                → Same (near_corner a k.inner k.outer (way l.edge x).high left first last)
                (point (l.edge (edge_of x)).high)
                → ⊥
            high_end g q s =
                (ends (near_corner a k.inner k.outer (way l.edge x).high left first last) no_a x
                from_a no_e).1 s

    -- the order of the directions leaves no other way
    pub first_next : Next r o g
    first_next =
        let n = next_some r whole.run whole.law o ((is.tubes i h).fits o mo) in
        let x = n.0 in
        let c = next_is_clockwise w l.edges l.edge steps o x complete swept n.1 in
        let fits = (next_has w l.edges l.edge steps complete o x n.1).0 in
        elim (decide_half x g) [
          | inl e ↦ subst (λ (y : Half). Next r o y) e n.1
          | inr not_g ↦ absurd (not_next x fits c not_g)
        ]
      where
        fits_g : edge_of g < l.edges
        fits_g = (is.tubes i h).fits g mg

        at_g : origin l.edge g ≡ origin l.edge (twin o)
        at_g = origin_way l.edge g ∙ sym meet ∙ sym (origin_twin l.edge o)

        other : g ≡ twin o → ⊥
        other e = twin_other d l is settled steps complete w swept i h o g mo mg meet e

        between_halves : (x : Half) → IsClockwiseNext l.edges l.edge (twin o) x → (x ≡ g → ⊥)
            → InWedge (direction l.edge g) (direction l.edge (twin o)) (direction l.edge x)
        between_halves x c not_g = elim c.turn [
          | inl k ↦ elim (k.1 g fits_g at_g) [
            | inl p ↦ elim p [
              | inl e ↦ absurd (not_g (sym e))
              | inr q ↦ between (direction l.edge g) (direction l.edge (twin o))
                  (direction l.edge x) turns q k.0
            ]
            | inr p ↦ elim p [
              | inl e ↦ absurd (other e)
              | inr q ↦ before (direction l.edge g) (direction l.edge (twin o))
                  (direction l.edge x) turns q k.0
            ]
          ]
          | inr k ↦ two x not_g (k g fits_g at_g)
        ]
          where
            two : (x : Half) → (x ≡ g → ⊥)
                → ((g ≡ x) ⊎ Comes l.edge g x) × ((g ≡ twin o) ⊎ Comes l.edge (twin o) g)
                → InWedge (direction l.edge g) (direction l.edge (twin o)) (direction l.edge x)
            two x not_g (inl e, q) = absurd (not_g (sym e))
            two x not_g (inr p, inl e) = absurd (other e)
            two x not_g (inr p, inr q) =
                after (direction l.edge g) (direction l.edge (twin o))
                (direction l.edge x) turns q p

        not_next : (x : Half) → edge_of x < l.edges → IsClockwiseNext l.edges l.edge (twin o) x
            → (x ≡ g → ⊥) → ⊥
        not_next x fits c not_g = elim (decide_half x (twin o)) [
          | inl e ↦ not_itself l.edges l.edge (twin o) g
              (subst (λ (y : Half). IsClockwiseNext l.edges l.edge (twin o) y) e c) fits_g at_g
              other
          | inr not_o ↦ wedge_empty x fits c.start not_g not_o (between_halves x c not_g)
        ]
