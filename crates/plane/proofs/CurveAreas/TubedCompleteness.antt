-- In a drawing with half arcs, labels that tell the faces apart, with placed points, make a
-- certificate: a search across cells from the
-- roots reaches every half-edge, and its links and ranks meet the rule for links.
use Rattle.std.proofs.Common.{◌≡◌, [], ℕ, zero, suc, ◌<◌, ◌≤◌, length, List, ℤ, refl, arith, ap}
use Rattle.std.proofs.Common.{sym, ◌∙◌, inl, inr, subst}
use Rattle.plane.specs.Forms.Vectors.{Edge}
use Rattle.plane.specs.Rule.Plans.{Plan, object}
use Rattle.plane.specs.Runs.Steps.{Step}
use Rattle.plane.specs.Faces.Replays.{Replay, replay}
use Rattle.plane.specs.Faces.Cells.{Sector, IsSector, label_of}
use Rattle.plane.specs.Faces.Labels.{Labels}
use Rattle.plane.specs.Faces.Halves.{Half, under, over, edge_of, twin, mark, Beside}
use Rattle.plane.specs.Faces.Classes.{Next, Across, Touches, Crossing, same, cross, Lead, root}
use Rattle.plane.specs.Faces.Classes.{next, previous, across, IsLead, IsFaces}
use Rattle.plane.specs.Faces.Certified.{FoundLead}
use Rattle.plane.specs.Tubes.Bays.{Bay}
use Rattle.plane.specs.CurveRuns.Extended.{Tubes, AreTubes}
use Rattle.plane.proofs.TubePaths.PieceWords.{AreSides}
use Rattle.plane.specs.CurveRuns.TubedRuns.{Part, whole, inner, outer, owned, IsOfTube, IsTubedRun}
use Rattle.plane.specs.CurveRuns.TubedRuns.{AreTubeLabels, tubes, MeetsArc}
use Rattle.plane.specs.CurveRuns.CertifiedCurves.{IsInCell, IsInTube, ArePlaced, BoundsSide}
use Rattle.plane.specs.CurveRuns.CertifiedCurves.{IsCurveRoot, CertifiedCurves}
use Rattle.plane.proofs.FaceLemmas.PlacedPoints.{placed_is}
use Rattle.plane.proofs.Turning.OneSide.{some_beside}
use Rattle.plane.proofs.Turning.CellWalls.{wall, beside_fits, crossing_linked, connected_linked}
use Rattle.plane.proofs.FaceLemmas.FaceNumbers.{label_before}
use Rattle.plane.proofs.LabelLemmas.HalfLabels.{border_label, linked_label}
use Rattle.plane.proofs.Turning.Rotation.{next_cells}
use Rattle.plane.proofs.Turning.AnyWeight.{next_to, across_to, faces_to, link_to}
use Rattle.plane.proofs.Runs.RunWeights.{RunWeight, run_weight}
use Rattle.plane.proofs.Windings.Whole.{IsWhole, swept_whole}
use Rattle.plane.proofs.Windings.Ways.{half_or_twin}
use Rattle.plane.proofs.OneTube.ArcEnds.{edge_twin}
use Rattle.plane.proofs.TubedRuns.RunTubes.{are_tubes}
use Rattle.plane.proofs.TubedRuns.ArcEdges.{some_inner, some_outer}
use Rattle.plane.proofs.TubedRuns.TubedWeights.{labels_to}
use Rattle.plane.proofs.TubePaths.TubedSides.{are_sides}
use Rattle.plane.proofs.FaceLemmas.FacesOfRuns.{crossing_to}
use Rattle.plane.proofs.CurveAreas.TubedPartition.{places_to, root_to}
use Rattle.plane.proofs.TubePaths.WaysOut.{cell_label}

module _ (d : Plan) (bays : ℕ → List Bay) (m : ℕ) (E : ℕ → Edge) (steps : List Step) (lab : Labels)
    (within : ℕ → Half) (inside outside : ℕ → ℕ) (is : IsTubedRun d bays m E steps) where
  u : RunWeight m E steps []
  u = run_weight m E steps [] is.run

  abbrev r : Replay
  r = replay u.weight m E steps

  run : IsWhole r
  run = swept_whole u.weight m E steps u.swept

  module _ (L : AreTubeLabels d bays r lab within inside outside)
      (placed : ArePlaced d bays r lab inside outside) (face : Half → ℕ) (faces : IsFaces r face)
      (fine : (g h : Half) → edge_of g < m → edge_of h < m → mark lab g ≡ mark lab h
      → face g ≡ face h) (none : (h : Half) → edge_of h < m → mark lab h ≡ 0 → face h ≡ 0) where
    abbrev T : Tubes
    T = tubes d bays within inside outside

    all : AreTubes r lab T (MeetsArc d)
    all = are_tubes u.weight d bays m E steps lab within inside outside u.swept is L

    sides : AreSides r lab T (MeetsArc d)
    sides = are_sides u.weight d bays m E steps lab within inside outside u.swept is L

    abbrev Root : Half → Type 0
    Root = IsCurveRoot d bays r lab within inside outside

    beside_mark : (h : Half) (c : Sector) → IsSector r c → Beside r h c
        → label_of lab r c ≡ mark lab h
    beside_mark h c C b = cell_label r run lab L.matched T (MeetsArc d) all sides h c C b

    across_mark : (g h : Half) → Across r g h → mark lab g ≡ mark lab h
    across_mark g h a = sym (beside_mark g a.0 a.1 a.2) ∙ beside_mark h a.0 a.1 a.3

    crossing_mark : (g h : Half) → Crossing r g h → mark lab g ≡ mark lab h
    crossing_mark _ _ (same g h e) = ap (mark lab) e
    crossing_mark _ _ (cross g x h a k) = across_mark g x a ∙ crossing_mark x h k

    touching_mark : (h : Half) → Touches r h → mark lab h ≡ 0
    touching_mark h t = sym (beside_mark h t.0 t.1 t.2)
        ∙ border_label r run.run run.law lab L.matched t.0 t.1 t.3

    abbrev Rooted : Half → Type 0
    Rooted h = (g : Half) × Crossing r h g × Root g

    -- to a half-edge of the same label, unless that is 0
    to_named : (h g : Half) → edge_of h < m → edge_of g < m → (mark lab h ≡ 0 → ⊥)
        → mark lab h ≡ mark lab g → Crossing r h g
    to_named h g lh lg some e =
        let y = some_beside r run.run run.law h lh in
        let z = some_beside r run.run run.law g lg in
        elim (crossing_linked r run.run run.law h g y.0 z.0 y.1 z.1 y.2 z.2
        (connected_linked r run.run run.law h g
        (faces.one h g lh lg (fine h g lh lg e)) y.0 z.0 y.1 z.1 y.2 z.2)) [
          | inl k ↦ k
          | inr k ↦ absurd (some (crossing_mark h k.0 k.1 ∙ touching_mark k.0 k.2))
        ]

    outer_root : (h : Half) → edge_of h < m → mark lab h ≡ 0 → Rooted h
    outer_root h l e =
        let y = some_beside r run.run run.law h l in
        let t = faces.outside h l (none h l e) in
        let c = t.2 in
        elim (crossing_linked r run.run run.law h t.0 y.0 c.0 y.1 c.1 y.2 c.2
        (connected_linked r run.run run.law h t.0 t.1 y.0 c.0 y.1 c.1 y.2 c.2)) [
          | inl k ↦ (t.0, k, inr (inl (touching_mark t.0 t.2, t.2)))
          | inr k ↦ (k.0, k.1, inr (inl (touching_mark k.0 k.2, k.2)))
        ]

    cell_root : (h : Half) (j : ℕ) → edge_of h < m → j < length d.points → mark lab h ≡ suc j
        → IsInCell r lab (object d j) (suc j) → Rooted h
    cell_root h j l lj e p =
        let spot : Sector = record { strip = p.strip; index = p.index } in
        let C : IsSector r spot = placed_is r run.run run.law p.strip p.index
        (object d j) p.placed in
        let label : label_of lab r spot ≡ suc j = label_before lab 0 p.index
        (r.list p.strip) p.placed.lower p.placed.is_lower ∙ p.lower_label in
        elim (wall r run.run run.law spot C) [
          | inl b ↦ (let z = border_label r run.run run.law lab L.matched spot C b in
              absurd (omega (arith, z, label)))
          | inr g ↦
              let mg : mark lab g.0 ≡ suc j = sym (beside_mark g.0 spot C g.1) ∙ label in (
                g.0,
                to_named h g.0 l (beside_fits r run.run run.law g.0 spot C g.1)
                    (λ z. omega (arith, z, e)) (e ∙ sym mg),
                inr (inr (j, lj, mg, inl (record { place = p; beside = g.1 }))),
              )
        ]

    side_root : (h : Half) (j : ℕ) → edge_of h < m → j < length d.points → mark lab h ≡ suc j
        → (e : ℕ) → IsOfTube (owned d bays e).part → mark lab (twin (within e)) ≡ suc j
        → ((twin (within e) ≡ twin (within e))
        → BoundsSide d bays r within inside outside (twin (within e)) j) → e < m → Rooted h
    side_root h j l lj q e part mg bound le =
        let g = twin (within e) in
        let lg : edge_of g < m = subst (λ (n : ℕ). n < m)
        (sym (edge_twin (within e) ∙ (L.faces e le part).edge)) le in (
          g,
          to_named h g l lg (λ z. omega (arith, z, q)) (q ∙ sym mg),
          inr (inr (j, lj, mg, inr (bound refl))),
        )

    tube_root : (h : Half) (j : ℕ) → edge_of h < m → j < length d.points → mark lab h ≡ suc j
        → IsInTube d bays inside outside (object d j) (suc j) → Rooted h
    tube_root h j l lj q p = elim p.side [
      | inl k ↦
          let x = some_inner d bays m E steps is p.number p.fits p.bent in
          let part : IsOfTube (owned d bays x.0).part = subst IsOfTube (sym x.3) tt in
          side_root h j l lj q x.0 part (L.inner_chain x.0 x.1 x.3 ∙ ap inside x.2 ∙ k.1)
          (λ n. record {
            place = p;
            edge = x.0;
            fits = x.1;
            of_curve = x.2;
            side = inl (x.3, k.0);
            is = n;
          }) x.1
      | inr k ↦
          let x = some_outer d bays m E steps is p.number p.fits p.bent in
          let part : IsOfTube (owned d bays x.0).part = subst IsOfTube (sym x.3) tt in
          side_root h j l lj q x.0 part (L.outer_chain x.0 x.1 x.3 ∙ ap outside x.2 ∙ k.1)
          (λ n. record {
            place = p;
            edge = x.0;
            fits = x.1;
            of_curve = x.2;
            side = inr (x.3, k.0);
            is = n;
          }) x.1
    ]

    region_root : (h : Half) (n : ℕ) → edge_of h < m → mark lab h ≡ n → n ≤ length d.points
        → Rooted h
    region_root h zero l e k = outer_root h l e
    region_root h (suc j) l e k =
        elim (placed j (omega (arith, k))) [
          | inl p ↦ cell_root h j l (omega (arith, k)) e p
          | inr p ↦ tube_root h j l (omega (arith, k)) e p
        ]

    side_label : (h : Half) (e : ℕ) → edge_of h ≡ e
        → (lab.below e ≤ length d.points) × (lab.above e ≤ length d.points)
        → mark lab h ≤ length d.points
    side_label (under e) n q p = subst (λ (x : ℕ). lab.below x ≤ length d.points) (sym q) p.0
    side_label (over e) n q p = subst (λ (x : ℕ). lab.above x ≤ length d.points) (sym q) p.1

    chain_root : (h : Half) → edge_of h < m → IsOfTube (owned d bays (edge_of h)).part → Rooted h
    chain_root h l part =
        elim (half_or_twin (within (edge_of h)) h (L.faces (edge_of h) l part).edge) [
          | inl e ↦ (h, same h h refl, inl (edge_of h, l, part, e))
          | inr e ↦ region_root h (mark lab h) l refl
              (subst (λ (n : ℕ). n ≤ length d.points) (sym (ap (mark lab) e))
              (L.outer_label (edge_of h) l part))
        ]

    crossing_root : (h : Half) → edge_of h < m → Rooted h
    crossing_root h l = by_part (owned d bays (edge_of h)).part refl
      where
        by_part : (p : Part) → (owned d bays (edge_of h)).part ≡ p → Rooted h
        by_part whole e =
            region_root h (mark lab h) l refl
            (side_label h (edge_of h) refl (L.straight_label (edge_of h) l e))
        by_part inner e = chain_root h l (subst IsOfTube (sym e) tt)
        by_part outer e = chain_root h l (subst IsOfTube (sym e) tt)

    -- where a way across cells ends, there is an edge
    crossing_fits : (h g : Half) → Crossing r h g → edge_of h < m → edge_of g < m
    crossing_fits _ _ (same h g e) l = subst (λ (x : Half). edge_of x < m) e l
    crossing_fits _ _ (cross h x g a k) l =
        crossing_fits x g k (beside_fits r run.run run.law x a.0 a.1 a.3)

    reached_here : (Reached : Half → Type 0) → ((h : Half) → edge_of h < m → Root h → Reached h)
        → ((g h : Half) → Reached g → Across r h g → Reached h) → (h : Half) → edge_of h < m
        → Reached h
    reached_here Reached roots closed h l =
        let g = crossing_root h l in back h g.0 g.1 l (λ k. roots g.0 k g.2)
      where
        back : (h g : Half) → Crossing r h g → edge_of h < m → (edge_of g < m → Reached g)
            → Reached h
        back _ _ (same h g e) l f =
            subst Reached (sym e) (f (subst (λ (x : Half). edge_of x < m) e l))
        back _ _ (cross h x g a k) l f =
            closed x h (back x g k (beside_fits r run.run run.law x a.0 a.1 a.3) f) a

    -- a half-edge and its next one have one label
    next_mark : (h g : Half) → Next r h g → mark lab h ≡ mark lab g
    next_mark h g n =
        let c = next_cells r run.run run.law g h n in
        sym (beside_mark h c.0 c.2 c.4) ∙ linked_label r run.run run.law lab L.matched c.0 c.1 c.6
        ∙ beside_mark g c.1 c.3 c.5

    links_here : (rank : Half → ℕ) (link : Half → Lead) (h : Half) (k : Lead)
        → FoundLead r rank Root h k → IsLead r (mark lab) rank Root h k
    links_here rank link h root o = o
    links_here rank link h (next g) o =
        let c = next_cells r run.run run.law g h o.0 in (
          o.0,
          record {
            fits = beside_fits r run.run run.law g c.1 c.3 c.5;
            kept = sym (next_mark h g o.0);
            less = o.1;
          },
        )
    links_here rank link h (previous g) o =
        let c = next_cells r run.run run.law h g o.0 in (
          o.0,
          record {
            fits = beside_fits r run.run run.law g c.0 c.2 c.4;
            kept = next_mark g h o.0;
            less = o.1;
          },
        )
    links_here rank link h (across g) o =
        let a = o.0 in (
          a,
          record {
            fits = beside_fits r run.run run.law g a.0 a.1 a.3;
            kept = sym (across_mark h g a);
            less = o.1;
          },
        )

  -- ---- with any weight in the replay
  module _ (v : ℤ) (L : AreTubeLabels d bays (replay v m E steps) lab within inside outside)
      (placed : ArePlaced d bays (replay v m E steps) lab inside outside) (face : Half → ℕ)
      (faces : IsFaces (replay v m E steps) face)
      (fine : (g h : Half) → edge_of g < m → edge_of h < m → mark lab g ≡ mark lab h
      → face g ≡ face h) (none : (h : Half) → edge_of h < m → mark lab h ≡ 0 → face h ≡ 0) where
    abbrev from : Replay
    from = replay v m E steps

    abbrev RootFrom : Half → Type 0
    RootFrom = IsCurveRoot d bays from lab within inside outside

    L_here : AreTubeLabels d bays r lab within inside outside
    L_here = labels_to v u.weight d bays m E steps lab within inside outside L

    placed_here : ArePlaced d bays r lab inside outside
    placed_here = places_to v u.weight d bays m E steps lab within inside outside placed

    faces_here : IsFaces r face
    faces_here = faces_to v u.weight m E steps face faces

    -- what holds all roots and is closed across cells holds all half-edges
    pub run_reached : (Reached : Half → Type 0)
        → ((h : Half) → edge_of h < m → RootFrom h → Reached h)
        → ((g h : Half) → Reached g → Across from h g → Reached h) → (h : Half) → edge_of h < m
        → Reached h
    run_reached Reached roots closed =
        reached_here L_here placed_here face faces_here fine none Reached
        (λ h l o. roots h l (root_to u.weight v d bays m E steps lab within inside outside h o))
        (λ g h k a. closed g h k (across_to u.weight v m E steps h g a))

    -- each half-edge crosses cells to a root
    pub run_rooted : (h : Half) → edge_of h < m
        → (g : Half) × (edge_of g < m) × Crossing from h g × RootFrom g
    run_rooted h l =
        let (g, k, at_root) = crossing_root L_here placed_here face faces_here fine none h l in (
          g,
          crossing_fits L_here placed_here face faces_here fine none h g k l,
          crossing_to u.weight v m E steps h g k,
          root_to u.weight v d bays m E steps lab within inside outside g at_root,
        )

    found_to : (rank : Half → ℕ) (h : Half) (k : Lead) → FoundLead from rank RootFrom h k
        → FoundLead r rank (Root L_here placed_here face faces_here fine none) h k
    found_to rank h root o = root_to v u.weight d bays m E steps lab within inside outside h o
    found_to rank h (next g) o = (next_to v u.weight m E steps h g o.0, o.1)
    found_to rank h (previous g) o = (next_to v u.weight m E steps g h o.0, o.1)
    found_to rank h (across g) o = (across_to v u.weight m E steps h g o.0, o.1)

    -- the certificate
    pub run_certified : (rank : Half → ℕ) (link : Half → Lead)
        → ((h : Half) → edge_of h < m → FoundLead from rank RootFrom h (link h))
        → CertifiedCurves d bays from lab within inside outside rank link
    run_certified rank link found = record {
      labels = L;
      placed = placed;
      links = λ h l. link_to u.weight v m E steps (mark lab) rank
          (Root L_here placed_here face faces_here fine none) RootFrom
          (root_to u.weight v d bays m E steps lab within inside outside) h (link h)
          (links_here L_here placed_here face faces_here fine none rank link h (link h)
          (found_to rank h (link h) (found h l)));
    }
