-- A settled run in the words of the tubes from those ends from which the third points are on the
-- right.
use Rattle.std.proofs.Common.{◌≡◌, ℕ, suc, ◌+◌, ◌<◌, Bool, true, false, cond, List, [], ◌∷◌, ◌++◌}
use Rattle.std.proofs.Common.{map, length, get_or, pos, ◌<ℤ◌, ◌⊎◌, ◌↔◌, inl, inr, refl, ap, sym}
use Rattle.std.proofs.Common.{◌∙◌, subst}
use Rattle.plane.specs.declared.kinds.Point.{Point}
use Rattle.plane.specs.declared.kinds.Curve.{Curve}
use Rattle.plane.specs.Lists.{Has}
use Rattle.plane.specs.Forms.Vectors.{point, Edge}
use Rattle.plane.specs.Forms.Meets.{IsEnd}
use Rattle.plane.specs.Rule.HalfArcs.{bow}
use Rattle.plane.specs.Rule.Curves.{arc}
use Rattle.plane.specs.Rule.Plans.{Plan, curve, IsStraight, IsHalfArc}
use Rattle.plane.specs.Rule.BadPairs.{IsEndOf, HaveSameEnds}
use Rattle.plane.specs.Runs.Steps.{Step}
use Rattle.plane.specs.Faces.Replays.{replay, no_step}
use Rattle.plane.specs.Faces.Halves.{Half, edge_of}
use Rattle.plane.specs.Tubes.Bays.{Bay, IsSome, IsTube}
use Rattle.plane.specs.Tubes.Bays as one
use Rattle.plane.specs.Tubes.Windings.{Tile, InTile, InSomeTile, tiles, bounds, IsCornerOf}
use Rattle.plane.specs.CurveRuns.TubedRuns.{Part, whole, inner, outer, Owned, chain, inner_corners}
use Rattle.plane.specs.CurveRuns.TubedRuns.{outer_corners, owned, Connects, IsTubedRun}
use Rattle.plane.specs.CurveRuns.TubedRuns.{third_is_left, inward, half_within, first_edge}
use Rattle.plane.specs.CurveRuns.TubedRuns.{tube_start, tube_bays, tube_edges, first_bay}
use Rattle.plane.specs.CurveRuns.TubedRuns.{later_bays, backward}
use Rattle.plane.proofs.Settling.EdgesAndTubes.{tiles_of, EdgeList, IsEdgeList, level}
use Rattle.plane.proofs.Settling.EdgesSettled.{IsSettled}
use Rattle.plane.specs.CurveRuns.Levels.{AreWide, IsSettledRun}
use Rattle.plane.proofs.ListLemmas.Lists.{has_append}
use Rattle.plane.proofs.Windings.Enters.{decide_point}
use Rattle.plane.proofs.OneTube.ArcTubes.{tiles_in_tube, tube_in_tiles}
use Rattle.plane.proofs.OneTube.TurnedTubes.{split_bays, turned_places}
use Rattle.plane.proofs.OneTube.BackwardBays.{last_inner}
use Rattle.plane.proofs.TubedRuns.EdgeNumbers.{IsFrom}
use Rattle.plane.proofs.TubedRuns.TubeBounds.{IsAmong}
use Rattle.plane.proofs.Runs.RunLaws.{run_meets}
use Rattle.plane.proofs.TubedRuns.FacingHalves.{faces}
use Rattle.plane.proofs.TubedRuns.TubeNumbers.{tube_among, among_tube, oriented}
use Rattle.plane.proofs.TubedRuns.ArcEdges.{its_curve, of_tube, below_m, some_bay, inner_from}
use Rattle.plane.proofs.TubedRuns.ArcEdges.{outer_from, ends_at}
use Rattle.plane.proofs.TubedRuns.TubedEdges.{half_from, facing}
use Rattle.plane.proofs.Windings.TileCorners.{AtArrow, tile_corners, edge_arrow, end_event}
use Rattle.plane.proofs.OneTube.TubeCorners.{tile_corner}
use Rattle.plane.proofs.ListLemmas.Lists.{has_map}
use Rattle.plane.proofs.Windings.TubeCells.{from_map}
use Rattle.plane.proofs.Runs.RunWeights.{run_weight}
use Rattle.plane.proofs.Windings.Whole.{swept_whole}
use Rattle.plane.proofs.Settling.RunLevels.{run_edges}

-- ---- inner corners from the other end
back_inner : (a : Point) (bs : List Bay) (k : Bay) → Has k (backward a bs)
    → (k.inner ≡ a) ⊎ ((b : Bay) × Has b bs × (b.inner ≡ k.inner))
back_inner a [] k m = absurd m
back_inner a (b ∷ bs) k m =
    elim (has_append k (backward b.inner bs) (record { outer = b.outer; inner = a } ∷ []) m) [
      | inr n ↦ elim n [ inl e ↦ inl (ap (λ (x : Bay). x.inner) e) | inr v ↦ absurd v ]
      | inl n ↦ elim (back_inner b.inner bs k n) [
        | inl e ↦ inr (b, inl refl, sym e)
        | inr r ↦ inr (r.0, inr r.1, r.2)
      ]
    ]

-- of the bays from the right end, by the side of the third point
right_inner : (left : Bool) (c : Curve) (bs : List Bay) (k : Bay) → IsSome bs
    → Has k (first_bay (cond left (backward c.from bs) bs)
    ∷ later_bays (cond left (backward c.from bs) bs))
    → (k.inner ≡ c.from) ⊎ ((b : Bay) × Has b bs × (b.inner ≡ k.inner))
right_inner left c [] k s m = absurd s
right_inner false c (b ∷ bs) k s m = inr (k, m, refl)
right_inner true c (b ∷ bs) k s m =
    back_inner c.from (b ∷ bs) k
    (subst (λ (ks : List Bay). Has k ks) (split_bays true c.from b bs) m)

-- ---- an arrow of an edge has the edge's ends
inward_end : (left : Bool) (part : Part) (p q v : Point) → IsEnd (inward left part p q) v
    → (p ≡ v) ⊎ (q ≡ v)
inward_end false inner p q v x = x
inward_end true inner p q v (inl e) = inr e
inward_end true inner p q v (inr e) = inl e
inward_end false outer p q v (inl e) = inr e
inward_end false outer p q v (inr e) = inl e
inward_end true outer p q v x = x
inward_end false whole p q v x = x
inward_end true whole p q v x = x

end_inward : (left : Bool) (part : Part) (p q v : Point) → (p ≡ v) ⊎ (q ≡ v)
    → IsEnd (inward left part p q) v
end_inward false inner p q v x = x
end_inward true inner p q v (inl e) = inr e
end_inward true inner p q v (inr e) = inl e
end_inward false outer p q v (inl e) = inr e
end_inward false outer p q v (inr e) = inl e
end_inward true outer p q v x = x
end_inward false whole p q v x = x
end_inward true whole p q v x = x

joins_end : (e : Edge) (p q v : Point) → Connects e p q → (p ≡ v) ⊎ (q ≡ v) → IsEnd e v
joins_end e p q v (inl h) (inl x) = inl (h.0 ∙ x)
joins_end e p q v (inl h) (inr x) = inr (h.1 ∙ x)
joins_end e p q v (inr h) (inl x) = inr (h.1 ∙ x)
joins_end e p q v (inr h) (inr x) = inl (h.0 ∙ x)

end_joins : (e : Edge) (p q v : Point) → Connects e p q → IsEnd e v → (p ≡ v) ⊎ (q ≡ v)
end_joins e p q v (inl h) (inl x) = inl (sym h.0 ∙ x)
end_joins e p q v (inl h) (inr x) = inr (sym h.1 ∙ x)
end_joins e p q v (inr h) (inl x) = inr (sym h.0 ∙ x)
end_joins e p q v (inr h) (inr x) = inl (sym h.1 ∙ x)

module _ (d : Plan) (bays : ℕ → List Bay) (m : ℕ) (E : ℕ → Edge) (steps : List Step)
    (is : IsTubedRun d bays m E steps) (wide : AreWide d bays) where
  abbrev l : EdgeList
  l = level d bays m E

  abbrev f : ℕ → Owned
  f e = owned d bays e

  abbrev within : ℕ → Half
  within = half_within d bays E

  edges : IsEdgeList d l
  edges = run_edges d bays m E steps is wide

  module _ (i : ℕ) (h : IsHalfArc d i) where
    abbrev c : Curve
    c = curve d i

    abbrev bs : List Bay
    bs = bays i

    abbrev s : ℕ
    s = first_edge bays 0 d.curves i

    -- the bounds of the tube from the half arc's own first end
    own_bounds : bounds c.from bs ≡ map (λ n. inward false (f n).part (f n).from (f n).to)
        (tube_edges false s bs)
    own_bounds =
        let b = some_bay d bays m E steps is i h.there h.kind in
        split bs b.0 b.1 b.2 (inner_from d bays m E steps is i h.there h.kind)
        (outer_from d bays m E steps is i h.there h.kind)
        (ends_at d bays m E steps is i h.there h.kind)
      where
        split : (ks : List Bay) (b : Bay) (rest : List Bay) → ks ≡ b ∷ rest
            → IsFrom f s (chain i inner c.from (inner_corners ks))
            → IsFrom f (s + length ks) (chain i outer c.from (outer_corners ks ++ c.to ∷ []))
            → last_inner c.from ks ≡ c.to
            → bounds c.from ks ≡ map (λ n. inward false (f n).part (f n).from (f n).to)
            (tube_edges false s ks)
        split ks b rest e =
            subst (λ (ks : List Bay). IsFrom f s (chain i inner c.from (inner_corners ks))
            → IsFrom f (s + length ks) (chain i outer c.from (outer_corners ks ++ c.to ∷ []))
            → last_inner c.from ks ≡ c.to
            → bounds c.from ks ≡ map (λ n. inward false (f n).part (f n).from (f n).to)
            (tube_edges false s ks)) (sym e)
            (λ F G H. oriented false f i s c.from c.to b rest F G H)

    -- an edge of the tube with an end there
    pub record HasCorner (p : Point) : Type 0 where
      pub edge : ℕ
      pub fits : edge < m
      pub among : IsAmong edge s (suc (length bs + length bs))
      pub end : IsEnd (E edge) p

    arrow_corner : (p : Point) → AtArrow (bounds c.from bs) p → HasCorner p
    arrow_corner p (e, has, x) =
        let n = from_map (λ n. inward false (f n).part (f n).from (f n).to) e
        (tube_edges false s bs) (subst (λ (es : List Edge). Has e es) own_bounds has) in
        let a = tube_among false s n.0 bs n.1 in
        let k = below_m d bays m E steps is i h.there h.kind n.0 a in
        record {
          edge = n.0;
          fits = k;
          among = a;
          end = joins_end (E n.0) (f n.0).from (f n.0).to p (is.edge n.0 k)
              (inward_end false (f n.0).part (f n.0).from (f n.0).to p
              (subst (λ (e : Edge). IsEnd e p) n.2 x));
        }

    pub corner_arrow : (p : Point) → HasCorner p → AtArrow (bounds c.from bs) p
    corner_arrow p k =
        let g : ℕ → Edge = λ n. inward false (f n).part (f n).from (f n).to in (
          g k.edge,
          subst (λ (es : List Edge). Has (g k.edge) es) (sym own_bounds)
              (has_map g k.edge (tube_edges false s bs) (among_tube false s k.edge bs k.among)),
          end_inward false (f k.edge).part (f k.edge).from (f k.edge).to p
              (end_joins (E k.edge) (f k.edge).from (f k.edge).to p (is.edge k.edge k.fits) k.end),
        )

    pub half_corner : (p : Point) (g : Half) → Has g (l.tube i).halves → IsEnd (E (edge_of g)) p
        → HasCorner p
    half_corner p g has x =
        let y = half_from d bays m E steps within is (faces d bays m E steps is) i h.there h.kind
        (tube_edges (third_is_left c) s bs) g has in
        let a = tube_among (third_is_left c) s y.0 bs y.1 in
        let k = below_m d bays m E steps is i h.there h.kind y.0 a in
        let o = its_curve d bays m E steps is i h.there h.kind y.0 a in
        let e : edge_of g ≡ y.0 = ap edge_of y.2
        ∙ (facing d bays m E steps within is
        (faces d bays m E steps is) i h.there h.kind y.0 k o).1 in
        record { edge = y.0; fits = k; among = a; end = subst (λ (n : ℕ). IsEnd (E n) p) e x }

    corner_half : (p : Point) → HasCorner p
        → (g : Half) × Has g (l.tube i).halves × IsEnd (E (edge_of g)) p
    corner_half p k =
        let o = its_curve d bays m E steps is i h.there h.kind k.edge k.among in
        let x = facing d bays m E steps within is
        (faces d bays m E steps is) i h.there h.kind k.edge k.fits o in
        (within k.edge, x.0, subst (λ (n : ℕ). IsEnd (E n) p) (sym x.1) k.end)

    -- the triangles from the one end and from the other have the same places
    own_place : (p : Point)
        → InSomeTile (tiles_of (l.tube i)) (point p) ↔ InSomeTile (tiles c.from bs) (point p)
    own_place p =
        let b = some_bay d bays m E steps is i h.there h.kind in
        split bs b.0 b.1 b.2 (ends_at d bays m E steps is i h.there h.kind)
      where
        split : (ks : List Bay) (b : Bay) (rest : List Bay) → ks ≡ b ∷ rest
            → last_inner c.from ks ≡ c.to
            → InSomeTile
            (tiles (tube_start c) (first_bay (tube_bays c ks) ∷ later_bays (tube_bays c ks)))
            (point p) ↔ InSomeTile (tiles c.from ks) (point p)
        split ks b rest e =
            subst (λ (ks : List Bay). last_inner c.from ks ≡ c.to
            → InSomeTile
            (tiles (tube_start c) (first_bay (tube_bays c ks) ∷ later_bays (tube_bays c ks)))
            (point p) ↔ InSomeTile (tiles c.from ks) (point p)) (sym e)
            (λ q.
            let x = turned_places (third_is_left c) c.from c.to b rest (point p) q in (
              (λ a. tube_in_tiles c.from b rest (point p) (x.0 a)),
              (λ a. x.1 (tiles_in_tube c.from b rest (point p) a)),
            ))

    own_bays : one.AreBays (arc c) c.from bs
    own_bays = (is.tube i h.there h.kind).are_bays

    pub some : IsSome bs
    some = (is.tube i h.there h.kind).some

    corner_of : (t : Tile) (p : Point) (es : List Edge) → IsCornerOf t p → AtArrow es t.a
        → AtArrow es t.b → AtArrow es t.c → AtArrow es p
    corner_of t p es (inl e) a b c = subst (AtArrow es) (sym e) a
    corner_of t p es (inr (inl e)) a b c = subst (AtArrow es) (sym e) b
    corner_of t p es (inr (inr e)) a b c = subst (AtArrow es) (sym e) c

  pub own : (i : ℕ) → IsHalfArc d i → (g : Half) → Has g (l.tube i).halves → (p : Point)
      → IsEnd (E (edge_of g)) p
      → IsEndOf (curve d i) p ⊎ ((e : ℕ) → e < m → IsEnd (E e) p → (f e).curve ≡ i)
  own i h g has p x = elim (decide_point (curve d i).from p) [
    | inl a ↦ inl (inl a)
    | inr u ↦ elim (decide_point (curve d i).to p) [
      | inl a ↦ inl (inr a)
      | inr v ↦ inr (λ e k y.
          let c = half_corner i h p g has x in
          let o = its_curve d bays m E steps is i h.there h.kind c.edge c.among in
          let j = event p c.edge c.fits c.end in
          elim (is.corner j.0 c.edge e j.1 c.fits k
          (of_tube d bays m E steps is i h.there h.kind c.edge c.among)
          (subst (IsEnd (E c.edge)) (sym j.2) c.end) (subst (IsEnd (E e)) (sym j.2) y)) [
            | inl a ↦ absurd (u (sym (ap (λ (n : ℕ). (curve d n).from) o) ∙ sym a ∙ j.2))
            | inr a ↦ elim a [
              | inl b ↦ absurd (v (sym (ap (λ (n : ℕ). (curve d n).to) o) ∙ sym b ∙ j.2))
              | inr b ↦ b ∙ o
            ]
          ])
    ]
  ]
    where
      event : (p : Point) (e : ℕ) → e < m → IsEnd (E e) p
          → (k : ℕ) × (k < length steps) × ((get_or steps k no_step).at ≡ p)
      event p e k x =
          let u = run_weight m E steps [] is.run in
          end_event (replay u.weight m E steps) (swept_whole u.weight m E steps u.swept) e p k x

  module _ (settled : IsSettledRun d bays m E) where
    enter : (e : ℕ) → e < m → (p : Point) → IsEnd (E e) p → (i : ℕ) → IsHalfArc d i → (t : Tile)
        → Has t (tiles_of (l.tube i)) → InTile t (point p) → IsCornerOf t p
    enter e k p x i h t n inside =
        let u = (own_place i h p).0 (t, n, inside) in
        let q = settled.enter e k p x i h.there h.kind u.0 u.1 u.2 in
        let cs = tile_corners (curve d i).from (bays i) u.0 u.1 in
        let at_own = corner_of i h u.0 p (bounds (curve d i).from (bays i)) q cs.a cs.b cs.c in
        let g = corner_half i h p (arrow_corner i h p at_own) in
        let tube = edges.tubes i h in
        tile_corner (l.tube i).arc (l.tube i).arc.from
        ((l.tube i).bay ∷ (l.tube i).bays) t p tube.tube.are_bays n inside
        (edge_arrow E (bounds (l.tube i).arc.from ((l.tube i).bay ∷ (l.tube i).bays))
        (l.tube i).halves g.0 p tube.bounds g.1 g.2)

    chord : (i j : ℕ) → IsStraight d i → IsHalfArc d j → HaveSameEnds (curve d i) (curve d j)
        → (b : Bay) → Has b ((l.tube j).bay ∷ (l.tube j).bays)
        → IsEndOf (curve d j) b.inner ⊎ (pos 0 <ℤ bow (arc (curve d j)) (point b.inner))
    chord i j a h same b has =
        elim (right_inner (third_is_left (curve d j)) (curve d j) (bays j) b (some j h) has) [
          | inl e ↦ inl (inl (sym e))
          | inr r ↦ subst (λ (q : Point). IsEndOf (curve d j) q
              ⊎ (pos 0 <ℤ bow (arc (curve d j)) (point q))) r.2
              (settled.chord i j a.there h.there a.kind h.kind same r.0 r.1)
        ]

    pub level_settled : IsSettled d l
    level_settled = record {
      meet = run_meets m E steps is.run;
      enter = enter;
      own = own;
      chord = chord;
    }
