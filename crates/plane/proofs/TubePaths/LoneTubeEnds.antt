-- At an end of a half arc where no other curve's edge ends, the two edges of its tube have one
-- label outside.
use Rattle.std.proofs.Common.{◌≡◌, ℕ, suc, ◌+◌, ◌<◌, Bool, true, false, List, [], ◌∷◌, ◌++◌, map}
use Rattle.std.proofs.Common.{length, ℤ, ◌⊎◌, inl, inr, refl, arith, ap, sym, ◌∙◌, subst}
use Rattle.std.proofs.lemmas.Int.{ints}
use Rattle.plane.specs.declared.kinds.Point.{Point}
use Rattle.plane.specs.declared.kinds.Curve.{Curve}
use Rattle.plane.specs.declared.kinds.CurveKind.TheVariants as kind
use Rattle.plane.specs.Lists.{Has}
use Rattle.plane.specs.Forms.Vectors.{Edge}
use Rattle.plane.specs.Forms.Meets.{IsEnd}
use Rattle.plane.specs.Rule.Plans.{Plan, curve}
use Rattle.plane.specs.Runs.Steps.{Step, WeighedRun}
use Rattle.plane.specs.Faces.Replays.{Replay, replay}
use Rattle.plane.specs.Faces.Halves.{Half, under, over, edge_of, twin, mark}
use Rattle.plane.specs.Faces.Labels.{Labels}
use Rattle.plane.specs.Faces.Classes.{Next, same, go}
use Rattle.plane.specs.Faces.Directions.{origin}
use Rattle.plane.specs.Tubes.Bays.{Bay, AreBays}
use Rattle.plane.specs.Tubes.Windings.{bounds}
use Rattle.plane.specs.Tubes.Facing.{way, IsDrawnTube}
use Rattle.plane.specs.CurveRuns.Extended.{Tubes, AreTubes}
use Rattle.plane.proofs.TubePaths.PieceWords.{AreSides}
use Rattle.plane.specs.CurveRuns.TubedRuns.{inner, outer, Owned, chain, inner_corners}
use Rattle.plane.specs.CurveRuns.TubedRuns.{outer_corners, owned, IsTubedRun, AreTubeLabels}
use Rattle.plane.specs.CurveRuns.TubedRuns.{third_is_left, inward, first_edge, tube_start}
use Rattle.plane.specs.CurveRuns.TubedRuns.{tube_bays, tube_edges, first_bay, later_bays}
use Rattle.plane.specs.CurveRuns.TubedRuns.{tube_label, tubes, MeetsArc}
use Rattle.plane.proofs.Turning.OneSide.{some_beside}
use Rattle.plane.proofs.Turning.CellWalls.{connected_linked}
use Rattle.plane.proofs.LabelLemmas.HalfLabels.{linked_label}
use Rattle.plane.proofs.Windings.Ways.{half_or_twin}
use Rattle.plane.proofs.Windings.Whole.{IsWhole, swept_whole}
use Rattle.plane.proofs.Turning.HalfWays.{edge_twin, twin_twin, way_flat, way_one, next_two}
use Rattle.plane.proofs.OneTube.TubeArrows.{starts_one, arrives_one, origin_way, origin_twin}
use Rattle.plane.proofs.OneTube.TubeArrows.{once_half}
use Rattle.plane.proofs.ListLemmas.Lists.{has_map}
use Rattle.plane.proofs.TubedRuns.TubeBounds.{IsAmong}
use Rattle.plane.proofs.TubedRuns.EdgeNumbers.{IsFrom}
use Rattle.plane.proofs.OneTube.BackwardBays.{last_inner}
use Rattle.plane.proofs.Settling.RunLevels.{right_arc, right_tube}
use Rattle.plane.proofs.TubedRuns.ArcEdges as edges
use Rattle.plane.proofs.TubedRuns.RunTubes.{are_tubes, its_tube, facing}
use Rattle.plane.proofs.TubePaths.TubedSides.{are_sides}
use Rattle.plane.proofs.TubePaths.WaysOut.{cell_label}

-- ---- the first and the last edge of each chain
inner_first : (f : ℕ → Owned) (i s : ℕ) (p : Point) (b : Bay) (bs : List Bay)
    → IsFrom f s (chain i inner p (inner_corners (b ∷ bs))) → (f s).from ≡ p
inner_first f i s p b bs h = ap (λ (o : Owned). o.from) h.0

outer_first : (f : ℕ → Owned) (i s : ℕ) (p e : Point) (bs : List Bay)
    → IsFrom f s (chain i outer p (outer_corners bs ++ e ∷ [])) → (f s).from ≡ p
outer_first f i s p e [] h = ap (λ (o : Owned). o.from) h.0
outer_first f i s p e (b ∷ bs) h = ap (λ (o : Owned). o.from) h.0

inner_end : (f : ℕ → Owned) (i s : ℕ) (p : Point) (b : Bay) (bs : List Bay)
    → IsFrom f s (chain i inner p (inner_corners (b ∷ bs)))
    → (f (s + length bs)).to ≡ last_inner b.inner bs
inner_end f i s p b [] h = ap (λ (n : ℕ). (f n).to) (omega arith) ∙ ap (λ (o : Owned). o.to) h.0
inner_end f i s p b (d ∷ bs) h = ap (λ (n : ℕ). (f n).to) (omega arith)
    ∙ inner_end f i (suc s) b.inner d bs h.1

outer_end : (f : ℕ → Owned) (i s : ℕ) (p e : Point) (bs : List Bay)
    → IsFrom f s (chain i outer p (outer_corners bs ++ e ∷ [])) → (f (s + length bs)).to ≡ e
outer_end f i s p e [] h = ap (λ (n : ℕ). (f n).to) (omega arith) ∙ ap (λ (o : Owned). o.to) h.0
outer_end f i s p e (b ∷ bs) h = ap (λ (n : ℕ). (f n).to) (omega arith)
    ∙ outer_end f i (suc s) b.outer e bs h.1

module _ (w : ℤ) (d : Plan) (bays : ℕ → List Bay) (m : ℕ) (E : ℕ → Edge) (steps : List Step)
    (lab : Labels) (within : ℕ → Half) (inside outside : ℕ → ℕ)
    (swept : WeighedRun w m E steps) (is : IsTubedRun d bays m E steps)
    (L : AreTubeLabels d bays (replay w m E steps) lab within inside outside)
    (i : ℕ) (l : i < length d.curves) (bent : (curve d i).kind ≡ kind.HalfArc) (v : Point)
    (lone : (e : ℕ) → e < m → IsEnd (E e) v → (owned d bays e).curve ≡ i) where
  abbrev r : Replay
  r = replay w m E steps

  abbrev T : Tubes
  T = tubes d bays within inside outside

  abbrev c : Curve
  c = curve d i

  abbrev bs : List Bay
  bs = bays i

  abbrev first : ℕ
  first = first_edge bays 0 d.curves i

  abbrev left : Bool
  left = third_is_left c

  abbrev halves : List Half
  halves = map within (tube_edges left first bs)

  abbrev K : Bay
  K = first_bay (tube_bays c bs)

  abbrev KS : List Bay
  KS = later_bays (tube_bays c bs)

  whole : IsWhole r
  whole = swept_whole w m E steps swept

  all : AreTubes r lab T (MeetsArc d)
  all = are_tubes w d bays m E steps lab within inside outside swept is L

  sides : AreSides r lab T (MeetsArc d)
  sides = are_sides w d bays m E steps lab within inside outside swept is L

  tube : IsDrawnTube r lab (tube_label d i) (tube_start c) K KS halves
  tube = its_tube w d bays m E steps lab within inside outside swept is L i l bent

  rising : AreBays (right_arc left c) (tube_start c) (K ∷ KS)
  rising = (right_tube left c bs (is.tube i l bent)).are_bays

  on_bounds : (g : Half) → Has g halves → Has (way E g) (bounds (tube_start c) (K ∷ KS))
  on_bounds g k =
      subst (λ (es : List Edge). Has (way E g) es) (sym tube.bounds) (has_map (way E) g halves k)

  starts_at : (f g : Half) → Has f halves → Has g halves → (way E f).low ≡ (way E g).low → f ≡ g
  starts_at f g mf mg e = once_half halves f g tube.faced.once mf mg
      (way_one m E steps is.run w swept f g (tube.faced.fits f mf) (tube.faced.fits g mg)
      (starts_one (right_arc left c) (tube_start c) (tube_start c) (K ∷ KS) (way E f)
      (way E g) rising (on_bounds f mf) (on_bounds g mg) e))

  arrives_at : (f g : Half) → Has f halves → Has g halves → (way E f).high ≡ (way E g).high → f ≡ g
  arrives_at f g mf mg e = once_half halves f g tube.faced.once mf mg
      (way_one m E steps is.run w swept f g (tube.faced.fits f mf) (tube.faced.fits g mg)
      (arrives_one (right_arc left c) (tube_start c) (tube_start c) (K ∷ KS) (way E f) (way E g)
      (omega (arith, ints)) rising (on_bounds f mf) (on_bounds g mg) e))

  -- ---- a half-edge and its next one have one label
  next_label : (h g : Half) → edge_of h < m → edge_of g < m → Next r h g → mark lab h ≡ mark lab g
  next_label h g lh lg n =
      let a = some_beside r whole.run whole.law h lh in
      let b = some_beside r whole.run whole.law g lg in
      let k = connected_linked r whole.run whole.law h g
      (go h g g n (same g g refl)) a.0 b.0 a.1 b.1 a.2 b.2 in
      sym (cell_label r whole lab L.matched T (MeetsArc d) all sides h a.0 a.1 a.2)
      ∙ linked_label r whole.run whole.law lab L.matched a.0 b.0 k
      ∙ cell_label r whole lab L.matched T (MeetsArc d) all sides g b.0 b.1 b.2

  -- ---- g arrives at the point, f starts there
  module _ (g f : Half) (mg : Has g halves) (mf : Has f halves) (arrives : (way E g).high ≡ v)
      (starts : (way E f).low ≡ v) where
    end_at : (x : Half) → origin E x ≡ v → IsEnd (E (edge_of x)) v
    end_at (over a) o = inl o
    end_at (under a) o = inr o

    only_two : (x : Half) → edge_of x < m → origin E x ≡ v → (x ≡ twin g) ⊎ (x ≡ f)
    only_two x lx o =
        let k = facing w d bays m E steps lab within inside outside swept is L i l bent
        (edge_of x) lx (lone (edge_of x) lx (end_at x o)) in
        elim (half_or_twin (within (edge_of x)) x k.1) [
          | inl e ↦ inr (e
              ∙ starts_at (within (edge_of x)) f k.0 mf (sym (origin_way E (within (edge_of x)))
              ∙ sym (ap (origin E) e) ∙ o ∙ sym starts))
          | inr e ↦ inl (e
              ∙ ap twin (arrives_at (within (edge_of x)) g k.0 mg
              (sym (origin_twin E (within (edge_of x))) ∙ sym (ap (origin E) e) ∙ o ∙ sym arrives)))
        ]

    twin_other : f ≡ twin g → ⊥
    twin_other e =
        way_flat m E steps is.run w swept g (tube.faced.fits g mg)
        (sym (ap (λ (x : Half). (way E x).low)
        (once_half halves f g tube.faced.once mf mg (ap edge_of e ∙ edge_twin g))) ∙ starts
        ∙ sym arrives)

    next_outside : Next r (twin f) (twin g)
    next_outside =
        next_two m E steps is.run w swept (twin f) (twin g)
        (subst (λ (e : ℕ). e < m) (sym (edge_twin f)) (tube.faced.fits f mf))
        (subst (λ (e : ℕ). e < m) (sym (edge_twin g)) (tube.faced.fits g mg))
        (origin_twin E g ∙ arrives ∙ sym starts
        ∙ sym (ap (origin E) (twin_twin f) ∙ origin_way E f))
        (λ e. twin_other (sym (e ∙ twin_twin f)))
        (λ x lx o. elim (only_two x lx (o ∙ ap (origin E) (twin_twin f) ∙ origin_way E f ∙ starts))
        [ inl e ↦ inr e | inr e ↦ inl (e ∙ sym (twin_twin f)) ])

    one_label : mark lab (twin f) ≡ mark lab (twin g)
    one_label = next_label (twin f) (twin g)
        (subst (λ (e : ℕ). e < m) (sym (edge_twin f)) (tube.faced.fits f mf))
        (subst (λ (e : ℕ). e < m) (sym (edge_twin g)) (tube.faced.fits g mg)) next_outside

  -- ---- an inner edge x and an outer edge y that both have that end
  abbrev F : ℕ → Owned
  F e = owned d bays e

  module _ (x y : ℕ) (hx : IsAmong x first (length bs))
      (hy : IsAmong y (first + length bs) (suc (length bs))) where
    in_all_x : IsAmong x first (suc (length bs + length bs))
    in_all_x = let a = hx.0 in let b = hx.1 in (a, omega (arith, b))

    in_all_y : IsAmong y first (suc (length bs + length bs))
    in_all_y = let a = hy.0 in let b = hy.1 in (omega (arith, a), omega (arith, b))

    lx : x < m
    lx = edges.below_m d bays m E steps is i l bent x in_all_x

    ly : y < m
    ly = edges.below_m d bays m E steps is i l bent y in_all_y

    ox : ((F x).curve ≡ i) × ((F x).part ≡ inner)
    ox = edges.inner_owner d bays m E steps is i l bent x hx

    oy : ((F y).curve ≡ i) × ((F y).part ≡ outer)
    oy = edges.outer_owner d bays m E steps is i l bent y hy

    way_x : way E (within x) ≡ inward left inner (F x).from (F x).to
    way_x = (L.faces x lx (edges.of_tube d bays m E steps is i l bent x in_all_x)).left
        ∙ ap (λ (j : ℕ). inward (third_is_left (curve d j)) (F x).part (F x).from (F x).to) ox.0
        ∙ ap (λ p. inward left p (F x).from (F x).to) ox.1

    way_y : way E (within y) ≡ inward left outer (F y).from (F y).to
    way_y = (L.faces y ly (edges.of_tube d bays m E steps is i l bent y in_all_y)).left
        ∙ ap (λ (j : ℕ). inward (third_is_left (curve d j)) (F y).part (F y).from (F y).to) oy.0
        ∙ ap (λ p. inward left p (F y).from (F y).to) oy.1

    mx : Has (within x) halves
    mx = (facing w d bays m E steps lab within inside outside swept is L i l bent x lx ox.0).0

    my : Has (within y) halves
    my = (facing w d bays m E steps lab within inside outside swept is L i l bent y ly oy.0).0

    told : mark lab (twin (within x)) ≡ mark lab (twin (within y)) → inside i ≡ outside i
    told e = sym (ap inside ox.0) ∙ sym (L.inner_chain x lx ox.1) ∙ e ∙ L.outer_chain y ly oy.1
        ∙ ap outside oy.0

    at_from : (b : Bool) → way E (within x) ≡ inward b inner (F x).from (F x).to
        → way E (within y) ≡ inward b outer (F y).from (F y).to → (F x).from ≡ v → (F y).from ≡ v
        → inside i ≡ outside i
    at_from false wx wy ex ey =
        told (one_label (within y) (within x) my mx (ap (λ (e : Edge). e.high) wy ∙ ey)
        (ap (λ (e : Edge). e.low) wx ∙ ex))
    at_from true wx wy ex ey =
        told (sym (one_label (within x) (within y) mx my (ap (λ (e : Edge). e.high) wx ∙ ex)
        (ap (λ (e : Edge). e.low) wy ∙ ey)))

    at_to : (b : Bool) → way E (within x) ≡ inward b inner (F x).from (F x).to
        → way E (within y) ≡ inward b outer (F y).from (F y).to → (F x).to ≡ v → (F y).to ≡ v
        → inside i ≡ outside i
    at_to false wx wy ex ey =
        told (sym (one_label (within x) (within y) mx my (ap (λ (e : Edge). e.high) wx ∙ ex)
        (ap (λ (e : Edge). e.low) wy ∙ ey)))
    at_to true wx wy ex ey =
        told (one_label (within y) (within x) my mx (ap (λ (e : Edge). e.high) wy ∙ ey)
        (ap (λ (e : Edge). e.low) wx ∙ ex))

    two_from : (F x).from ≡ v → (F y).from ≡ v → inside i ≡ outside i
    two_from ex ey = at_from left way_x way_y ex ey

    two_to : (F x).to ≡ v → (F y).to ≡ v → inside i ≡ outside i
    two_to ex ey = at_to left way_x way_y ex ey

  -- at either end of the half arc
  pub lone_end : (v ≡ c.from) ⊎ (v ≡ c.to) → inside i ≡ outside i
  lone_end at =
      let s = edges.some_bay d bays m E steps is i l bent in
      let b = s.0 in
      let rest = s.1 in
      let size : length bs ≡ suc (length rest) = ap (λ (ks : List Bay). length ks) s.2 in
      let inner_is = subst
      (λ (ks : List Bay). IsFrom F first (chain i inner c.from (inner_corners ks))) s.2
      (edges.inner_from d bays m E steps is i l bent) in
      let outer_is = edges.outer_from d bays m E steps is i l bent in
      elim at [
        | inl e ↦ two_from first (first + length bs) (omega arith, omega (arith, size))
            (omega arith, omega arith)
            (inner_first F i first c.from b rest inner_is ∙ sym e)
            (outer_first F i (first + length bs) c.from c.to bs outer_is ∙ sym e)
        | inr e ↦ two_to (first + length rest) ((first + length bs) + length bs)
            (omega arith, omega (arith, size)) (omega arith, omega arith)
            (inner_end F i first c.from b rest inner_is
            ∙ subst (λ (ks : List Bay). last_inner c.from ks ≡ c.to) s.2
            (edges.ends_at d bays m E steps is i l bent) ∙ sym e)
            (outer_end F i (first + length bs) c.from c.to bs outer_is ∙ sym e)
      ]
