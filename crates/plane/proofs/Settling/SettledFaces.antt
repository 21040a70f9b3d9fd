-- In a settled drawing a face that has a half-edge which faces a tube from within has the
-- half-edges that do so, and no others.
use Rattle.std.proofs.Common.{◌≡◌, ℕ, ◌<◌, inl, inr, List, ◌∷◌, ℤ, pos, ◌+ℤ◌, ◌*ℤ◌, ◌<ℤ◌, ◌≤ℤ◌}
use Rattle.std.proofs.Common.{refl, arith, ap, sym, ◌∙◌, subst}
use Rattle.std.proofs.lemmas.Int.{ints}
use Rattle.plane.specs.declared.kinds.Point.{Point}
use Rattle.plane.specs.Lists.{Has}
use Rattle.plane.specs.Forms.Vectors.{Vector, Place, Same, point, sweep, On}
use Rattle.plane.specs.Forms.Meets.{IsEnd}
use Rattle.plane.specs.Rule.Plans.{Plan, IsHalfArc}
use Rattle.plane.specs.Runs.Steps.{Step, WeighedRun}
use Rattle.plane.specs.Faces.Replays.{Replay, replay, IsOffEdges, reach}
use Rattle.plane.specs.Faces.Cells.{Sector, IsSector, corner, sector, Linked, IsFree, JoinedByEdges}
use Rattle.plane.specs.Faces.Cells.{arrives, goes}
use Rattle.plane.specs.Faces.Halves.{Half, under, over, edge_of, twin, Beside}
use Rattle.plane.specs.Faces.Classes.{Connected, Touches, IsFaces}
use Rattle.plane.specs.Tubes.Windings.{Tile, IsLeftTile, bounds, lead}
use Rattle.plane.specs.CurveRuns.Extended.{IsOnWay}
use Rattle.plane.proofs.Settling.EdgesAndTubes.{tiles_of, EdgeList, IsEdgeList}
use Rattle.plane.proofs.Settling.EdgesSettled.{IsSettled}
use Rattle.plane.proofs.Linear.EdgePlaces.{place_point}
use Rattle.plane.proofs.ListLemmas.Lists.{each_has}
use Rattle.plane.proofs.Algebra.Laws.{product_positive, weight_at_most}
use Rattle.plane.proofs.Covers.SamePlace.{same_sym}
use Rattle.plane.proofs.Linear.Clear.{on_same}
use Rattle.plane.proofs.Windings.Ways.{way_mix, way_start, way_place, half_or_twin}
use Rattle.plane.proofs.Turning.OneSide.{beside_linked}
use Rattle.plane.proofs.Strips.Borders.{border_linked}
use Rattle.plane.proofs.Strips.OneStrip.{linked_join}
use Rattle.plane.proofs.Strips.Columns.{cell_is, centre_off, centre_cell}
use Rattle.plane.proofs.Strips.Centres.{centre}
use Rattle.plane.proofs.Strips.Joins.{linked_joined}
use Rattle.plane.proofs.Turning.CellWalls.{connected_linked}
use Rattle.plane.proofs.Windings.CommonPlaces.{decide_number, in_some_same}
use Rattle.plane.proofs.Windings.Under.{lead_after}
use Rattle.plane.proofs.Windings.OneTriangle.{side_a, side_b, side_c, area, sides_sum, sides_lead}
use Rattle.plane.proofs.Windings.OneTriangle.{triangle_within}
use Rattle.plane.proofs.Windings.Whole.{IsWhole, swept_whole}
use Rattle.plane.proofs.Windings.TileCorners.{AtArrow, tile_corners, corner_edge, end_event}
use Rattle.plane.proofs.OneTube.TubeExits.{kept_in}
use Rattle.plane.proofs.Settling.DrawnTubes.{of_tube}
use Rattle.plane.proofs.Settling.SettledEdges.{Inside, all_left, bound_edge, event_in, edge_out}
use Rattle.plane.proofs.Settling.SettledEdges.{low_on, high_on}
use Rattle.plane.proofs.Settling.SettledCells.{IsAcross, across_edge, across_back, left_inside}
use Rattle.plane.proofs.Settling.SettledCells.{right_outside, way_hits}

module _ (d : Plan) (l : EdgeList) (is : IsEdgeList d l) (settled : IsSettled d l) (w : ℤ)
    (steps : List Step) (swept : WeighedRun w l.edges l.edge steps) where
  abbrev r : Replay
  r = replay w l.edges l.edge steps

  whole : IsWhole r
  whole = swept_whole w l.edges l.edge steps swept

  abbrev pub In : ℕ → Vector → Type 0
  In i z = Inside d l is settled w steps swept i z

  -- ---- what is joined to a place of the tube is in the tube
  free_in : (i : ℕ) → IsHalfArc d i → (p q : Vector) → Place p → Place q → IsFree r p q → In i p
      → In i q
  free_in i h p q P Q free inside =
      kept_in p q P Q (l.tube i).arc.from ((l.tube i).bay ∷ (l.tube i).bays)
      (all_left d l is settled w steps swept i h)
      (λ x k e m b.
      let j = bound_edge d l is settled w steps swept i h e m x (way_place p q x P Q k) b in
      free (edge_of j.0) ((is.tubes i h).fits j.0 j.1)
      (way_hits d l is settled w steps swept p q x P Q k (edge_of j.0) j.2))
      inside

  pub joined_in : (i : ℕ) → IsHalfArc d i → (p q : Vector) → JoinedByEdges r p q → Place p → Place q
      → In i p → In i q
  joined_in i h _ _ (arrives p q e) P Q inside = in_some_same (tiles_of (l.tube i)) p q P e inside
  joined_in i h _ _ (goes p q s Y free j) P S inside =
      joined_in i h q s j Y S (free_in i h p q P Y free inside)

  linked_in : (i : ℕ) → IsHalfArc d i → (p q : Vector) → Place p → Place q → IsOffEdges r p
      → IsOffEdges r q → Linked r (sector r p) (sector r q) → In i p → In i q
  linked_in i h p q P Q op oq k inside =
      joined_in i h p q (linked_joined r whole.run whole.law p q P Q op oq k) P Q inside

  -- ---- a half-edge beside a place of the tube faces it
  module _ (i : ℕ) (h : IsHalfArc d i) (g : Half) (fits : edge_of g < l.edges) where
    own_wall : (s o : Vector) → IsAcross d l is settled w steps swept g s o → In i s
        → l.owner (edge_of g) ≡ i → Has g (l.tube i).halves
    own_wall s o a inside q =
        let m = of_tube d l is i h (edge_of g) fits q in
        elim (half_or_twin m.0 g m.2) [
          | inl e ↦ subst (λ (x : Half). Has x (l.tube i).halves) (sym e) m.1
          | inr e ↦
              let b : IsAcross d l is settled w steps swept m.0 o s =
              subst (λ (x : Half). IsAcross d l is settled w steps swept x o s) (twice m.0)
              (across_back d l is settled w steps swept (twin m.0) s o
              (subst (λ (x : Half). IsAcross d l is settled w steps swept x s o) e a)) in
              absurd (right_outside d l is settled w steps swept i h m.0 m.1 o s b inside)
        ]
      where
        twice : (g : Half) → twin (twin g) ≡ g
        twice (over e) = refl
        twice (under e) = refl

    no_other : (s o : Vector) → IsAcross d l is settled w steps swept g s o → In i s
        → (l.owner (edge_of g) ≡ i → ⊥) → ⊥
    no_other s o a inside n =
        let Z = way_place s o a.z a.s_place a.o_place a.z_on in
        let at_z : In i a.z = kept_in s a.z a.s_place Z (l.tube i).arc.from
        ((l.tube i).bay ∷ (l.tube i).bays) (all_left d l is settled w steps swept i h)
        (λ x k e m b.
        let j = bound_edge d l is settled w steps swept i h e m x
        (way_place s a.z x a.s_place Z k) b in
        let way_x = subst (λ (v : Vector). IsOnWay s o v) (sym k.is)
        (way_mix s o s a.z k.s k.t k.s_least k.t_least k.some (way_start s o) a.z_on) in
        a.clear x way_x (edge_of j.0) ((is.tubes i h).fits j.0 j.1)
        (λ q. n (sym (ap l.owner q) ∙ is.tube_owner i h j.0 j.1)) j.2)
        inside in
        edge_out d l is settled w steps swept i h (edge_of g) fits n a.z Z a.z_edge
        (λ e. ends (l.edge (edge_of g)).low (inl refl) e at_z)
        (λ e. ends (l.edge (edge_of g)).high (inr refl) e at_z) at_z
      where
        ends : (q : Point) → IsEnd (l.edge (edge_of g)) q → Same a.z (point q) → In i a.z → ⊥
        ends q x e at_z =
            let Z = way_place s o a.z a.s_place a.o_place a.z_on in
            let f = event_in d l is settled w steps swept i h (edge_of g) fits q x
            (in_some_same (tiles_of (l.tube i)) a.z (point q) Z e at_z) in
            let k = (is.tubes i h).fits f.0 f.1 in
            a.clear a.z a.z_on (edge_of f.0) k
            (λ y. n (sym (ap l.owner y) ∙ is.tube_owner i h f.0 f.1))
            (on_same w (l.edge (edge_of f.0)) (point q) a.z (same_sym a.z (point q) e)
            (place_point q) Z (elim f.2 [
              | inl y ↦ subst (λ (p : Point). On w (l.edge (edge_of f.0)) (point p)) y
                  (low_on w (l.edge (edge_of f.0)) (whole.run.rise (edge_of f.0) k))
              | inr y ↦ subst (λ (p : Point). On w (l.edge (edge_of f.0)) (point p)) y
                  (high_on w (l.edge (edge_of f.0)) (whole.run.rise (edge_of f.0) k))
            ]))

    pub wall_faces : (x : Vector) → Place x → IsOffEdges r x → Beside r g (sector r x) → In i x
        → Has g (l.tube i).halves
    wall_faces x X off beside inside =
        let (s, o, a) = across_edge d l is settled w steps swept g fits in
        let k = beside_linked r whole.run whole.law g (sector r x) (sector r s)
        (cell_is r whole.run whole.law x X)
        (cell_is r whole.run whole.law s a.s_place) beside a.s_beside in
        let at_s = linked_in i h x s X a.s_place off a.s_off k inside in
        elim (decide_number (l.owner (edge_of g)) i) [
          | inl q ↦ own_wall s o a at_s q
          | inr n ↦ absurd (no_other s o a at_s n)
        ]

  -- ---- faces
  pub connected_faces : (i : ℕ) → IsHalfArc d i → (g f : Half) → Has g (l.tube i).halves
      → edge_of f < l.edges → Connected r g f → Has f (l.tube i).halves
  connected_faces i h g f m fits c =
      let (s, o, a) = across_edge d l is settled w steps swept g ((is.tubes i h).fits g m) in
      let (x, y, b) = across_edge d l is settled w steps swept f fits in
      let k = connected_linked r whole.run whole.law g f c (sector r s) (sector r x)
      (cell_is r whole.run whole.law s a.s_place)
      (cell_is r whole.run whole.law x b.s_place) a.s_beside b.s_beside in
      wall_faces i h f fits x b.s_place b.s_off b.s_beside
      (linked_in i h s x a.s_place b.s_place a.s_off b.s_off k
      (left_inside d l is settled w steps swept i h g m s o a))

  -- ---- the tube is bounded: before all events there is none of it
  lead_sum : (t : Tile) (v : Vector)
      → (pos 0 ≤ℤ side_a t v) × (pos 0 ≤ℤ side_b t v) × (pos 0 ≤ℤ side_c t v)
      → pos 0 <ℤ ((side_a t v +ℤ side_b t v) +ℤ side_c t v)
      → pos 0 <ℤ lead w t.a v → pos 0 <ℤ lead w t.b v → pos 0 <ℤ lead w t.c v → ⊥
  lead_sum t v s some a b c =
      let e = sides_lead w t v in
      let x = weight_at_most (side_b t v) (lead w t.a v) s.1 a in
      let y = weight_at_most (side_c t v) (lead w t.b v) s.2 b in
      let z = weight_at_most (side_a t v) (lead w t.c v) s.0 c in
      omega (arith, ints, e, x, y, z, some)

  none_before : (i : ℕ) → IsHalfArc d i → (v : Vector) → Place v
      → ((j : ℕ) → j < r.steps → sweep w v <ℤ (reach r j *ℤ v.n)) → In i v → ⊥
  none_before i h v V before (t, m, inside) =
      let tube = is.tubes i h in
      let left = each_has (λ t. IsLeftTile t) (tiles_of (l.tube i)) t
      (all_left d l is settled w steps swept i h) m in
      let c = tile_corners (l.tube i).arc.from ((l.tube i).bay ∷ (l.tube i).bays) t m in
      let s = triangle_within t v V left inside in
      let sum = sides_sum t v in
      let p = product_positive v.n (area t) V left in
      lead_sum t v s (omega (arith, ints, sum, p)) (ahead t.a c.a) (ahead t.b c.b) (ahead t.c c.c)
    where
      ahead : (q : Point)
          → AtArrow (bounds (l.tube i).arc.from ((l.tube i).bay ∷ (l.tube i).bays)) q
          → pos 0 <ℤ lead w q v
      ahead q a =
          let tube = is.tubes i h in
          let g = corner_edge l.edge (bounds (l.tube i).arc.from ((l.tube i).bay ∷ (l.tube i).bays))
          (l.tube i).halves q tube.bounds a in
          let j = end_event r whole (edge_of g.0) q (tube.fits g.0 g.1) g.2 in
          lead_after w q v
          (subst (λ (p : Point). sweep w v <ℤ (sweep w (point p) *ℤ v.n)) j.2 (before j.0 j.1))

  pub no_border : (i : ℕ) → IsHalfArc d i → (g f : Half) → Has g (l.tube i).halves → Connected r g f
      → Touches r f → ⊥
  no_border i h g f m c t =
      let (s, o, a) = across_edge d l is settled w steps swept g ((is.tubes i h).fits g m) in
      let k = connected_linked r whole.run whole.law g f c (sector r s) t.0
      (cell_is r whole.run whole.law s a.s_place) t.1 a.s_beside t.2 in
      let b = border_linked r whole.run whole.law t.0 t.1 t.3 in
      let first : IsSector r corner = record { strip = omega arith; index = omega arith } in
      let (v, x) = centre r whole.run whole.law corner first in
      let V = x.place in
      let off = centre_off r whole.run whole.law corner v (omega arith) x in
      let e = centre_cell r whole.run whole.law corner v first x in
      none_before i h v V (λ j n. x.inside.to j (omega arith) n)
      (linked_in i h s v a.s_place V a.s_off off
      (subst (λ (c : Sector). Linked r (sector r s) c) (sym e)
      (linked_join r (sector r s) t.0 corner k b))
      (left_inside d l is settled w steps swept i h g m s o a))

  pub own_face : (face : Half → ℕ) → IsFaces r face → (i : ℕ) → IsHalfArc d i → (g f : Half)
      → Has g (l.tube i).halves → edge_of f < l.edges → face g ≡ face f → Has f (l.tube i).halves
  own_face face faces i h g f m fits e =
      connected_faces i h g f m fits (faces.one g f ((is.tubes i h).fits g m) fits e)

  pub not_outer : (face : Half → ℕ) → IsFaces r face → (i : ℕ) → IsHalfArc d i → (g : Half)
      → Has g (l.tube i).halves → face g ≡ 0 → ⊥
  not_outer face faces i h g m e =
      let t = faces.outside g ((is.tubes i h).fits g m) e in no_border i h g t.0 m t.1 t.2
