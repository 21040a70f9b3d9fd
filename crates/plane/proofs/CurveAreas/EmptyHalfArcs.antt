-- A side of a half arc is empty exactly where the label beside its tube on that side is not 0 and
-- that of no object's point.
use Rattle.std.proofs.Common.{◌≡◌, ◌↔◌, ℕ, ◌<◌, length, List, ℤ, pos, ◌<ℤ◌}
use Rattle.plane.specs.declared.kinds.CurveKind.TheVariants as kind
use Rattle.plane.specs.declared.kinds.Placed.{Placed}
use Rattle.plane.specs.Forms.Vectors.{Vector, Place, point, Edge}
use Rattle.plane.specs.Rule.Plans.{Plan, curve, object}
use Rattle.plane.specs.Rule.Partition.{IsOff}
use Rattle.plane.specs.Rule.CrossedCurves.{CrossesHalfArc, IsLost}
use Rattle.plane.specs.Runs.Steps.{Step, WeighedRun}
use Rattle.plane.specs.Faces.Replays.{replay}
use Rattle.plane.specs.Faces.Labels.{Labels}
use Rattle.plane.specs.Faces.Halves.{Half, edge_of, mark}
use Rattle.plane.specs.Faces.Classes.{IsFaces}
use Rattle.plane.specs.Tubes.Bays.{Bay}
use Rattle.plane.specs.CurveRuns.Extended.{HasLabel}
use Rattle.plane.specs.CurveRuns.TubedRuns.{IsTubedRun, AreTubeLabels, tubes}
use Rattle.plane.proofs.CurveAreas.RegionPoints.{lost_is}
use Rattle.plane.proofs.CurveAreas.ArcSideLabels.{inner_end, outer_end}
use Rattle.plane.proofs.TubedRuns.TubedCrossings.{arc_crossed}

-- crossing segments do not read the drawing's points
module _ (d : Plan) (ps : List Placed) (i : ℕ) (p q : Vector) where
  pub crosses_with : CrossesHalfArc (record d { points = ps }) i p q → CrossesHalfArc d i p q
  crosses_with x = record {
    p_place = x.p_place;
    q_place = x.q_place;
    p_off = x.p_off;
    q_off = x.q_off;
    p_away = x.p_away;
    q_away = x.q_away;
    inside = x.inside;
    outside = x.outside;
    hits = x.hits;
    clear = x.clear;
  }

  pub crosses_without : CrossesHalfArc d i p q → CrossesHalfArc (record d { points = ps }) i p q
  crosses_without x = record {
    p_place = x.p_place;
    q_place = x.q_place;
    p_off = x.p_off;
    q_off = x.q_off;
    p_away = x.p_away;
    q_away = x.q_away;
    inside = x.inside;
    outside = x.outside;
    hits = x.hits;
    clear = x.clear;
  }

module _ (w : ℤ) (d : Plan) (ps : List Placed) (bays : ℕ → List Bay) (m : ℕ) (E : ℕ → Edge)
    (steps : List Step) (lab : Labels) (within : ℕ → Half) (inside outside : ℕ → ℕ)
    (swept : WeighedRun w m E steps) (is : IsTubedRun (record d { points = ps }) bays m E steps)
    (L : AreTubeLabels (record d { points = ps }) bays
    (replay w m E steps) lab within inside outside) (face : Half → ℕ)
    (faces : IsFaces (replay w m E steps) face)
    (fine : (g h : Half) → edge_of g < m → edge_of h < m → mark lab g ≡ mark lab h
    → face g ≡ face h) (none : (h : Half) → edge_of h < m → mark lab h ≡ 0 → face h ≡ 0)
    (i : ℕ) (fits : i < length d.curves) (bent : (curve d i).kind ≡ kind.HalfArc) where
  abbrev other : Plan
  other = record d { points = ps }

  abbrev Label : Vector → ℕ → Type 0
  Label z l = HasLabel (replay w m E steps) lab (tubes other bays within inside outside) z l

  lost : pos 0 <ℤ w → (k : ℕ → ℕ)
      → ((j : ℕ) → j < length d.points → Label (point (object d j)) (k j)) → (z : Vector) (l : ℕ)
      → Place z → IsOff d z → Label z l
      → IsLost d z ↔ ((l ≡ 0 → ⊥) × ((j : ℕ) → j < length d.points → l ≡ k j → ⊥))
  lost heavy k points z l Z off h =
      lost_is w d ps bays m E steps lab within inside outside swept is L face faces fine none heavy
      z l k Z off h points

  pub empty_inside : pos 0 <ℤ w → (k : ℕ → ℕ)
      → ((j : ℕ) → j < length d.points → Label (point (object d j)) (k j))
      → ((p : Vector) × (q : Vector) × CrossesHalfArc d i p q × IsLost d p)
      ↔ ((inside i ≡ 0 → ⊥) × ((j : ℕ) → j < length d.points → inside i ≡ k j → ⊥))
  empty_inside heavy k points = (
    (λ (p, q, x, y).
        (lost heavy k points p (inside i) x.p_place x.p_off
        (inner_end w other bays m E steps lab within inside outside swept is L i fits bent p q
        (crosses_without d ps i p q x))).0 y),
    (λ u.
        let c = arc_crossed w other bays m E steps lab within inside outside swept is L i fits
        bent in
        let x = crosses_with d ps i c.0 c.1 c.2 in
        (c.0, c.1, x, (lost heavy k points c.0 (inside i) x.p_place x.p_off c.3.0).1 u)),
  )

  pub empty_outside : pos 0 <ℤ w → (k : ℕ → ℕ)
      → ((j : ℕ) → j < length d.points → Label (point (object d j)) (k j))
      → ((p : Vector) × (q : Vector) × CrossesHalfArc d i p q × IsLost d q)
      ↔ ((outside i ≡ 0 → ⊥) × ((j : ℕ) → j < length d.points → outside i ≡ k j → ⊥))
  empty_outside heavy k points = (
    (λ (p, q, x, y).
        (lost heavy k points q (outside i) x.q_place x.q_off
        (outer_end w other bays m E steps lab within inside outside swept is L i fits bent p q
        (crosses_without d ps i p q x))).0 y),
    (λ u.
        let c = arc_crossed w other bays m E steps lab within inside outside swept is L i fits
        bent in
        let x = crosses_with d ps i c.0 c.1 c.2 in
        (c.0, c.1, x, (lost heavy k points c.1 (outside i) x.q_place x.q_off c.3.1).1 u)),
  )
