-- Face numbers of a true partition are labels that meet all rules.
-- A search across cells from the roots reaches every half-edge, and its links and ranks meet the
-- rule for links.
use Rattle.std.proofs.Common.{length, ◌≡◌, ℕ, ◌<◌, refl, arith, sym, ◌∙◌, inl, inr, subst, List}
use Rattle.plane.specs.Lists.{Has}
use Rattle.plane.specs.Faces.Replays.{Replay}
use Rattle.plane.proofs.Runs.RunWords.{IsRun, IsLawful}
use Rattle.plane.specs.Faces.Cells.{Sector, IsSector}
use Rattle.plane.specs.Faces.Halves.{Half, under, over, edge_of, mark, Beside}
use Rattle.plane.specs.Faces.Classes.{Next, Across, Touches, Crossing, same, cross, Lead, root}
use Rattle.plane.specs.Faces.Classes.{next, previous, across, IsLead, AreLeads, numbers, face_of}
use Rattle.plane.specs.Rule.Plans.{Plan, object}
use Rattle.plane.specs.Faces.Certified.{IsRoot, Certified, FoundLead, IsComplete}
use Rattle.plane.proofs.FaceLemmas.PlacedPoints.{placed_is}
use Rattle.plane.proofs.Turning.OneSide.{some_beside}
use Rattle.plane.proofs.Turning.CellWalls.{wall, beside_fits, crossing_linked, connected_linked}
use Rattle.plane.proofs.FaceLemmas.FaceNumbers.{faces_matched, beside_face, border_face}
use Rattle.plane.proofs.LabelLemmas.HalfLabels.{linked_label}
use Rattle.plane.proofs.Turning.Rotation.{next_cells}

mark_numbers : (face : Half → ℕ) (h : Half) → mark (numbers face) h ≡ face h
mark_numbers face (under e) = refl
mark_numbers face (over e) = refl

module _ (d : Plan) (r : Replay) (run : IsRun r) (law : IsLawful r) (face : Half → ℕ)
    (strip index : ℕ → ℕ) (c : IsComplete d r face strip index) where
  abbrev spot : ℕ → Sector
  spot j = record { strip = strip j; index = index j }

  abbrev Root : Half → Type 0
  Root = IsRoot d r (numbers face) strip index

  spot_is : (j : ℕ) → j < length d.points → IsSector r (spot j)
  spot_is j l = placed_is r run law (strip j) (index j) (object d j) (c.placed j l)

  crossing_face : (g h : Half) → Crossing r g h → face g ≡ face h
  crossing_face _ _ (same g h e) = subst (λ (x : Half). face g ≡ face x) e refl
  crossing_face _ _ (cross g x h a k) = c.faces.across g x a ∙ crossing_face x h k

  -- each half-edge is connected to a root by cells between two edges alone
  touching : (h x : Half) → face h ≡ 0 → Crossing r h x → Touches r x
      → (g : Half) × Crossing r h g × Root g
  touching h x z k t = (x, k, inl (mark_numbers face x ∙ sym (crossing_face h x k) ∙ z, t))

  pub crossing_root : (h : Half) → edge_of h < r.edges → (g : Half) × Crossing r h g × Root g
  crossing_root h l =
      let y = some_beside r run law h l in
      elim (c.filled h l) [
        | inl z ↦ (
            let t = c.faces.outside h l z in
            let u = t.2 in
            elim (crossing_linked r run law h t.0 y.0 u.0 y.1 u.1 y.2 u.2
            (connected_linked r run law h t.0 t.1 y.0 u.0 y.1 u.1 y.2 u.2)) [
              | inl k ↦ touching h t.0 z k t.2
              | inr k ↦ touching h k.0 z k.1 k.2
            ])
        | inr m ↦ (
            let j = m.0 in
            let S = spot_is j m.1 in
            let e = c.label j m.1 in
            elim (wall r run law (spot j) S) [
              | inl b ↦ (let z = border_face r run law face c.faces (spot j) S b in
                  absurd (omega (arith, e, z)))
              | inr g ↦ (
                  let f = beside_face r run law face c.faces g.0 (spot j) S g.1 in
                  let one = c.faces.one h g.0 l (beside_fits r run law g.0 (spot j) S g.1) (m.2
                  ∙ sym e ∙ f) in
                  elim (crossing_linked r run law h g.0 y.0 (spot j) y.1 S y.2 g.1
                  (connected_linked r run law h g.0 one y.0 (spot j) y.1 S y.2 g.1)) [
                    | inl k ↦ (g.0, k, inr (j, m.1, mark_numbers face g.0 ∙ sym f ∙ e, g.1))
                    | inr k ↦ (let z = c.faces.border k.0 k.2 in let q = crossing_face h k.0 k.1 in
                        let n = m.2 in absurd (omega (arith, z, q, n)))
                  ])
            ])
      ]

  -- what holds all roots and is closed across cells holds all half-edges: a search by breadth from
  -- the roots finds each
  pub all_reached : (Reached : Half → Type 0)
      → ((h : Half) → edge_of h < r.edges → Root h → Reached h)
      → ((g h : Half) → Reached g → Across r h g → Reached h)
      → (h : Half) → edge_of h < r.edges → Reached h
  all_reached Reached roots closed h l =
      let g = crossing_root h l in back h g.0 g.1 l (λ m. roots g.0 m g.2)
    where
      back : (h g : Half) → Crossing r h g → edge_of h < r.edges → (edge_of g < r.edges → Reached g)
          → Reached h
      back _ _ (same h g e) l f =
          subst Reached (sym e) (f (subst (λ (x : Half). edge_of x < r.edges) e l))
      back _ _ (cross h x g a k) l f =
          closed x h (back x g k (beside_fits r run law x a.0 a.1 a.3) f) a

  -- a half-edge and its next one have one number
  pub next_face : (h g : Half) → Next r h g → face h ≡ face g
  next_face h g n =
      let m = next_cells r run law g h n in
      sym (beside_face r run law face c.faces h m.0 m.2 m.4)
      ∙ linked_label r run law (numbers face) (faces_matched r run law face c.faces) m.0 m.1 m.6
      ∙ beside_face r run law face c.faces g m.1 m.3 m.5

  -- links found by such a search, each a root or across a cell to a half-edge found earlier, meet
  -- the rule for links
  pub found_links : (rank : Half → ℕ) (link : Half → Lead)
      → ((h : Half) → edge_of h < r.edges → FoundLead r rank Root h (link h))
      → AreLeads r (mark (numbers face)) rank link Root
  found_links rank link found h l = lead (link h) (found h l)
    where
      lead : (k : Lead) → FoundLead r rank Root h k → IsLead r (mark (numbers face)) rank Root h k
      lead root o = o
      lead (across g) o =
          let a = o.0 in (
            a,
            record {
              fits = beside_fits r run law g a.0 a.1 a.3;
              kept = mark_numbers face g ∙ sym (c.faces.across h g a) ∙ sym (mark_numbers face h);
              less = o.1;
            },
          )
      lead (next g) o =
          let m = next_cells r run law g h o.0 in (
            o.0,
            record {
              fits = beside_fits r run law g m.1 m.3 m.5;
              kept = mark_numbers face g ∙ sym (next_face h g o.0) ∙ sym (mark_numbers face h);
              less = o.1;
            },
          )
      lead (previous g) o =
          let m = next_cells r run law h g o.0 in (
            o.0,
            record {
              fits = beside_fits r run law g m.0 m.2 m.4;
              kept = mark_numbers face g ∙ next_face g h o.0 ∙ sym (mark_numbers face h);
              less = o.1;
            },
          )

  -- the certificate
  pub complete : (rank : Half → ℕ) (link : Half → Lead)
      → ((h : Half) → edge_of h < r.edges → FoundLead r rank Root h (link h))
      → Certified d r (numbers face) rank link
  complete rank link found = record {
    matched = faces_matched r run law face c.faces;
    strip = strip;
    index = index;
    placed = c.placed;
    lower_label = λ j l. let p = c.placed j l in
        sym (lower_face j (strip j) (index j) p.lower (spot_is j l) p.is_lower) ∙ c.label j l;
    upper_label = λ j l. let p = c.placed j l in
        sym (beside_face r run law face c.faces (under p.upper) (spot j) (spot_is j l) p.is_upper)
        ∙ c.label j l;
    links = found_links rank link found;
  }
    where
      lower_face : (j k i e : ℕ) → IsSector r (record { strip = k; index = i })
          → Beside r (over e) (record { strip = k; index = i })
          → face_of r face (record { strip = k; index = i }) ≡ face (over e)
      lower_face j k i e C b =
          beside_face r run law face c.faces (over e) (record { strip = k; index = i }) C b

  -- a search that keeps a list of found half-edges, ends with all roots in it and closed across
  -- cells, gives a certificate
  pub searched : (seen : List Half) (rank : Half → ℕ) (link : Half → Lead)
      → ((h : Half) → edge_of h < r.edges → Root h → Has h seen)
      → ((g h : Half) → Has g seen → Across r h g → Has h seen)
      → ((h : Half) → Has h seen → FoundLead r rank Root h (link h))
      → Certified d r (numbers face) rank link
  searched seen rank link roots closed found =
      complete rank link (λ h l. found h (all_reached (λ x. Has x seen) roots closed h l))
