-- In a drawing with half arcs a side of a straight is empty exactly where its label is not 0 and
-- that of no object's point.
use Rattle.std.proofs.Common.{◌≡◌, ◌↔◌, ℕ, ◌<◌, length, List, ℤ, pos, ◌<ℤ◌, ◌∙◌}
use Rattle.plane.specs.declared.kinds.CurveKind.TheVariants as kind
use Rattle.plane.specs.declared.kinds.Placed.{Placed}
use Rattle.plane.specs.Forms.Vectors.{Vector, Place, point, Edge}
use Rattle.plane.specs.Rule.Plans.{Plan, curve, object}
use Rattle.plane.specs.Rule.Partition.{IsOff}
use Rattle.plane.specs.Rule.CrossedCurves.{CrossesCurve, IsLost}
use Rattle.plane.specs.Runs.Steps.{Step, WeighedRun}
use Rattle.plane.specs.Faces.Replays.{replay}
use Rattle.plane.specs.Faces.Labels.{Labels}
use Rattle.plane.specs.Faces.Halves.{Half, edge_of, mark}
use Rattle.plane.specs.Faces.Classes.{IsFaces}
use Rattle.plane.specs.Tubes.Bays.{Bay}
use Rattle.plane.specs.CurveRuns.Extended.{HasLabel}
use Rattle.plane.specs.CurveRuns.TubedRuns.{whole, owned, IsTubedRun, AreTubeLabels, tubes}
use Rattle.plane.proofs.TubedRuns.TubedLabels.{off_label}
use Rattle.plane.proofs.CurveAreas.RegionPoints.{lost_is}
use Rattle.plane.proofs.CurveAreas.StraightCrossings.{above_label, below_label}
use Rattle.plane.proofs.CurveAreas.CrossedStraights.{straight_crossed}

-- crossing segments do not read the drawing's points
module _ (d : Plan) (ps : List Placed) (e : Edge) (i : ℕ) (p q : Vector) where
  pub crosses_with : CrossesCurve (record d { points = ps }) e i p q → CrossesCurve d e i p q
  crosses_with x = record {
    p_place = x.p_place;
    q_place = x.q_place;
    p_off = x.p_off;
    q_off = x.q_off;
    above = x.above;
    below = x.below;
    hits = x.hits;
    clear = x.clear;
  }

  pub crosses_without : CrossesCurve d e i p q → CrossesCurve (record d { points = ps }) e i p q
  crosses_without x = record {
    p_place = x.p_place;
    q_place = x.q_place;
    p_off = x.p_off;
    q_off = x.q_off;
    above = x.above;
    below = x.below;
    hits = x.hits;
    clear = x.clear;
  }

module _ (w : ℤ) (d : Plan) (ps : List Placed) (bays : ℕ → List Bay) (m : ℕ) (E : ℕ → Edge)
    (steps : List Step) (lab : Labels) (within : ℕ → Half) (inside outside : ℕ → ℕ)
    (swept : WeighedRun w m E steps) (is : IsTubedRun (record d { points = ps }) bays m E steps)
    (L : AreTubeLabels (record d { points = ps }) bays
    (replay w m E steps) lab within inside outside) (face : Half → ℕ)
    (faces : IsFaces (replay w m E steps) face)
    (fine : (g h : Half) → edge_of g < m → edge_of h < m → mark lab g ≡ mark lab h
    → face g ≡ face h) (none : (h : Half) → edge_of h < m → mark lab h ≡ 0 → face h ≡ 0)
    (i : ℕ) (fits : i < length d.curves) (straight : (curve d i).kind ≡ kind.Straight) (e : ℕ)
    (le : e < m) (own : (owned (record d { points = ps }) bays e).curve ≡ i)
    (part : (owned (record d { points = ps }) bays e).part ≡ whole) where
  abbrev wide : Plan
  wide = record d { points = ps }

  abbrev Label : Vector → ℕ → Type 0
  Label z l = HasLabel (replay w m E steps) lab (tubes wide bays within inside outside) z l

  abbrev Unnamed : (ℕ → ℕ) → ℕ → Type 0
  Unnamed k n = (n ≡ 0 → ⊥) × ((j : ℕ) → j < length d.points → n ≡ k j → ⊥)

  renamed : (k : ℕ → ℕ) (l n : ℕ) → l ≡ n → Unnamed k l → Unnamed k n
  renamed k l n s u = ((λ x. u.0 (s ∙ x)), (λ j f x. u.1 j f (s ∙ x)))

  lost : pos 0 <ℤ w → (k : ℕ → ℕ)
      → ((j : ℕ) → j < length d.points → Label (point (object d j)) (k j)) → (z : Vector) (l : ℕ)
      → Place z → IsOff d z → Label z l → IsLost d z ↔ Unnamed k l
  lost heavy k points z l Z off h =
      lost_is w d ps bays m E steps lab within inside outside swept is L face faces fine none heavy
      z l k Z off h points

  off_has : (z : Vector) → Place z → IsOff d z → (l : ℕ) × Label z l
  off_has z Z off = off_label w wide bays m E steps lab within inside outside swept is L z Z off

  pub empty_above : pos 0 <ℤ w → (k : ℕ → ℕ)
      → ((j : ℕ) → j < length d.points → Label (point (object d j)) (k j))
      → ((p : Vector) × (q : Vector) × CrossesCurve d (E e) i p q × IsLost d p)
      ↔ ((lab.above e ≡ 0 → ⊥) × ((j : ℕ) → j < length d.points → lab.above e ≡ k j → ⊥))
  empty_above heavy k points = (
    (λ (p, q, x, y).
        let h = off_has p x.p_place x.p_off in
        let s = above_label w wide bays m E steps lab within inside outside swept is L i fits
        straight e le own part p q (crosses_without d ps (E e) i p q x) h.0 h.1 in
        renamed k h.0 (lab.above e) s ((lost heavy k points p h.0 x.p_place x.p_off h.1).0 y)),
    (λ u.
        let c = straight_crossed w wide bays m E steps lab within inside outside swept is L i fits
        straight e le own part in
        let x = crosses_with d ps (E e) i c.0 c.1 c.2 in
        (c.0, c.1, x, (lost heavy k points c.0 (lab.above e) x.p_place x.p_off c.3.0).1 u)),
  )

  pub empty_below : pos 0 <ℤ w → (k : ℕ → ℕ)
      → ((j : ℕ) → j < length d.points → Label (point (object d j)) (k j))
      → ((p : Vector) × (q : Vector) × CrossesCurve d (E e) i p q × IsLost d q)
      ↔ ((lab.below e ≡ 0 → ⊥) × ((j : ℕ) → j < length d.points → lab.below e ≡ k j → ⊥))
  empty_below heavy k points = (
    (λ (p, q, x, y).
        let h = off_has q x.q_place x.q_off in
        let s = below_label w wide bays m E steps lab within inside outside swept is L i fits
        straight e le own part p q (crosses_without d ps (E e) i p q x) h.0 h.1 in
        renamed k h.0 (lab.below e) s ((lost heavy k points q h.0 x.q_place x.q_off h.1).0 y)),
    (λ u.
        let c = straight_crossed w wide bays m E steps lab within inside outside swept is L i fits
        straight e le own part in
        let x = crosses_with d ps (E e) i c.0 c.1 c.2 in
        (c.0, c.1, x, (lost heavy k points c.1 (lab.below e) x.q_place x.q_off c.3.1).1 u)),
  )
