-- A run is settled exactly where its cells pair: half-edges on both sides of a cell face one tube,
-- or none. Then labels that tell the
-- tubes and nothing else meet a certificate's rules.
use Rattle.std.proofs.Common.{◌≡◌, ℕ, zero, suc, ◌<◌, ◌≤◌, List, [], length, ℤ, refl, arith, ap}
use Rattle.std.proofs.Common.{sym, ◌∙◌, subst}
use Rattle.plane.specs.Lists.{Has}
use Rattle.plane.specs.Forms.Vectors.{Edge}
use Rattle.plane.specs.Rule.Plans.{Plan, curve, IsHalfArc}
use Rattle.plane.specs.Rule.Triangles.{Apart}
use Rattle.plane.specs.Runs.Steps.{Step, WeighedRun}
use Rattle.plane.specs.Faces.Replays.{Replay, replay}
use Rattle.plane.specs.Faces.Halves.{Half, under, over, edge_of, twin, mark}
use Rattle.plane.specs.Faces.Classes.{Across, Touches, Connected}
use Rattle.plane.specs.Faces.Classes as faces_of
use Rattle.plane.specs.Tubes.Bays.{Bay}
use Rattle.plane.specs.CurveRuns.TubedRuns.{Owned, owned, IsTubedRun, AreTubeLabels, half_within}
use Rattle.plane.proofs.Settling.EdgesAndTubes.{EdgeList, IsEdgeList, level}
use Rattle.plane.proofs.Settling.EdgesSettled.{IsSettled}
use Rattle.plane.specs.CurveRuns.Levels.{AreWide, IsSettledRun}
use Rattle.plane.specs.CurveRuns.FacedTubes.{faced, AreCellsPaired, blank_label, blank_labels}
use Rattle.plane.proofs.TubedRuns.FacingHalves.{faces}
use Rattle.plane.proofs.Runs.RunWeights.{run_weight}
use Rattle.plane.proofs.Turning.AnyWeight.{across_to, touches_to}
use Rattle.plane.proofs.Windings.Whole.{IsWhole, swept_whole}
use Rattle.plane.proofs.Turning.CellWalls.{beside_fits}
use Rattle.plane.proofs.LabelLemmas.PairedSides.{sides_matched}
use Rattle.plane.proofs.TubedRuns.FacedTubes.{faced_within, faced_twin, faced_whole, faced_is}
use Rattle.plane.proofs.Settling.RunLevels.{run_edges}
use Rattle.plane.proofs.Settling.SettledRuns.{level_settled}
use Rattle.plane.proofs.Settling.SettledFaces.{connected_faces, no_border}
use Rattle.plane.proofs.TubedRuns.TubedWeights.{labels_to, curves_apart}
use Rattle.plane.proofs.TubedRuns.TubedEdges.{half_curve}
use Rattle.plane.proofs.Settling.RunFaces.{mark_is, tube_arc, arc_part, has_half, half_is}
use Rattle.plane.proofs.Settling.LabelsSettle.{labels_settle}

-- two numbers are equal where each is the other as far as it is above 0
both_ways : (a b : ℕ) → ((i : ℕ) → a ≡ suc i → b ≡ suc i) → ((i : ℕ) → b ≡ suc i → a ≡ suc i)
    → a ≡ b
both_ways zero zero f g = refl
both_ways (suc a) b f g = sym (f a refl)
both_ways zero (suc b) f g = g b refl

none : (a : ℕ) → ((i : ℕ) → a ≡ suc i → ⊥) → a ≡ 0
none zero f = refl
none (suc a) f = absurd (f a refl)

module _ (d : Plan) (bays : ℕ → List Bay) (m : ℕ) (E : ℕ → Edge) (steps : List Step)
    (is : IsTubedRun d bays m E steps) (wide : AreWide d bays) where
  abbrev l : EdgeList
  l = level d bays m E

  abbrev f : ℕ → Owned
  f e = owned d bays e

  edges : IsEdgeList d l
  edges = run_edges d bays m E steps is wide

  -- the half-edges that face the tube of half arc i, by its number and by the list
  faced_arc : (h : Half) (i : ℕ) → edge_of h < m → faced d bays E h ≡ suc i → IsHalfArc d i
  faced_arc h i k e =
      let q = faced_is d bays E h i e in
      subst (λ (j : ℕ). IsHalfArc d j) q.curve
      (tube_arc d bays m E steps is wide (edge_of h) k q.part)

  faced_has : (h : Half) (i : ℕ) (k : edge_of h < m) (e : faced d bays E h ≡ suc i)
      → Has h (l.tube i).halves
  faced_has h i k e =
      let q = faced_is d bays E h i e in
      subst (λ (g : Half). Has g (l.tube i).halves) (sym q.is)
      (has_half d bays m E steps is wide i (faced_arc h i k e) (edge_of h) k q.curve).0

  has_faced : (h : Half) (i : ℕ) → IsHalfArc d i → Has h (l.tube i).halves
      → faced d bays E h ≡ suc i
  has_faced h i a n =
      let c = half_curve d bays m E steps (half_within d bays E) is
      (faces d bays m E steps is) i a.there a.kind h n in
      let k = (edges.tubes i a).fits h n in
      let o = arc_part d bays m E steps is wide (edge_of h) k
      (subst (λ (j : ℕ). IsHalfArc d j) (sym c) a) in
      ap (faced d bays E) (half_is d bays m E steps is wide i a h n)
      ∙ faced_within d bays E (edge_of h) o ∙ ap suc c

  -- ---- the cells of a settled run
  module _ (settles : IsSettledRun d bays m E) where
    settled : IsSettled d l
    settled = level_settled d bays m E steps is wide settles

    module _ (w : ℤ) (swept : WeighedRun w m E steps) where
      abbrev r : Replay
      r = replay w m E steps

      whole : IsWhole r
      whole = swept_whole w m E steps swept

      across_faced : (g h : Half) → Across r g h → (i : ℕ) → faced d bays E g ≡ suc i
          → faced d bays E h ≡ suc i
      across_faced g h a i e =
          let kg = beside_fits r whole.run whole.law g a.0 a.1 a.2 in
          let kh = beside_fits r whole.run whole.law h a.0 a.1 a.3 in
          let arc = faced_arc g i kg e in
          has_faced h i arc
          (connected_faces d l edges settled w steps swept i arc g h (faced_has g i kg e) kh
          (faces_of.cross g h h a (faces_of.same h h refl)))

      back : (g h : Half) → Across r g h → Across r h g
      back g h a = (a.0, a.1, a.3, a.2)

      paired : AreCellsPaired d bays r
      paired = record {
        across = λ g h a. both_ways (faced d bays E g) (faced d bays E h) (across_faced g h a)
            (across_faced h g (back g h a));
        border = λ h t. none (faced d bays E h) (λ i e.
            let k = beside_fits r whole.run whole.law h t.0 t.1 t.2 in
            no_border d l edges settled w steps swept i (faced_arc h i k e) h h (faced_has h i k e)
            (faces_of.same h h refl) t);
      }

    pub cells_paired : (v : ℤ) → AreCellsPaired d bays (replay v m E steps)
    cells_paired v =
        let u = run_weight m E steps [] is.run in
        let p = paired u.weight u.swept in
        record {
          across = λ g h a. p.across g h (across_to v u.weight m E steps g h a);
          border = λ h t. p.border h (touches_to v u.weight m E steps h t);
        }

  -- ---- labels of paired cells
  module _ (w : ℤ) (swept : WeighedRun w m E steps)
      (pair : AreCellsPaired d bays (replay w m E steps)) where
    of_whole : IsWhole (replay w m E steps)
    of_whole = swept_whole w m E steps swept

    blank : (h : Half) → mark (blank_labels d bays E) h ≡ blank_label d (faced d bays E h)
    blank h = mark_is (λ g. blank_label d (faced d bays E g)) h

    zero_least : (a n : ℕ) → a ≡ 0 → a ≤ n
    zero_least a n e = omega (arith, e)

    zero_blank : (h : Half) → faced d bays E h ≡ 0 → mark (blank_labels d bays E) h ≡ 0
    zero_blank h e = blank h ∙ ap (blank_label d) e

    labels : AreTubeLabels d bays (replay w m E steps) (blank_labels d bays E)
        (half_within d bays E) (λ i. 0) (λ i. 0)
    labels = record {
      matched = sides_matched (replay w m E steps) of_whole.run
          (λ h. blank_label d (faced d bays E h)) (λ g h a. ap (blank_label d) (pair.across g h a))
          (λ h t. ap (blank_label d) (pair.border h t));
      faces = λ e k o. faces d bays m E steps is e k o;
      within_label = λ e k o. blank (half_within d bays E e)
          ∙ ap (blank_label d) (faced_within d bays E e o);
      outer_label =
          λ e k o. zero_least _ _
          (zero_blank (twin (half_within d bays E e)) (faced_twin d bays E e));
      straight_label =
          λ e k p. (
            zero_least _ _ (zero_blank (under e) (faced_whole d bays E (under e) p)),
            zero_least _ _ (zero_blank (over e) (faced_whole d bays E (over e) p)),
          );
      inner_chain = λ e k p. zero_blank (twin (half_within d bays E e)) (faced_twin d bays E e);
      outer_chain = λ e k p. zero_blank (twin (half_within d bays E e)) (faced_twin d bays E e);
    }

  -- S1
  pub blank_are_labels : (v : ℤ) → IsSettledRun d bays m E
      → AreTubeLabels d bays (replay v m E steps) (blank_labels d bays E) (half_within d bays E)
      (λ i. 0) (λ i. 0)
  blank_are_labels v settles =
      let u = run_weight m E steps [] is.run in
      labels_to u.weight v d bays m E steps (blank_labels d bays E) (half_within d bays E) (λ i. 0)
      (λ i. 0) (labels u.weight u.swept (cells_paired settles u.weight))

  -- S2
  pub paired_settle : (v : ℤ) → AreCellsPaired d bays (replay v m E steps) → IsSettledRun d bays m E
  paired_settle v p =
      let u = run_weight m E steps [] is.run in
      let pair : AreCellsPaired d bays (replay u.weight m E steps) =
      record {
        across = λ g h a. p.across g h (across_to u.weight v m E steps g h a);
        border = λ h t. p.border h (touches_to u.weight v m E steps h t);
      } in
      labels_settle d bays m E steps is wide u.weight u.swept (blank_labels d bays E)
      (half_within d bays E) (λ i. 0) (λ i. 0) (labels u.weight u.swept pair)

  -- S3
  pub settled_apart : IsSettledRun d bays m E → (i j : ℕ) → i < length d.curves
      → j < length d.curves → (i ≡ j → ⊥) → Apart (curve d i) (curve d j)
  settled_apart settles =
      let u = run_weight m E steps [] is.run in
      curves_apart u.weight d bays m E steps (blank_labels d bays E) (half_within d bays E) (λ i. 0)
      (λ i. 0) is (blank_are_labels u.weight settles)
