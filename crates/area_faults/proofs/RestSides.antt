-- The sides of the straights of the rest, by their face numbers in half units: some segment crosses
-- each straight, and each that crosses it has its ends in the faces of its sides.
use Rattle.std.proofs.Common.{◌≡◌, ℕ, ◌<◌, length, List, pos, sym, subst}
use Rattle.plane.specs.declared.kinds.Curve.{Curve}
use Rattle.plane.specs.declared.kinds.CurveKind.TheVariants as kind
use Rattle.plane.specs.declared.kinds.Edge.{Edge}
use Rattle.plane.specs.Faces.Classes.{IsFaces}
use Rattle.plane.specs.Faces.DrawnRuns.{IsRunOf, drawn}
use Rattle.plane.specs.Faces.Halves.{Half, over, under}
use Rattle.plane.specs.Forms.Segments.{IsEdgeOf}
use Rattle.plane.specs.Rule.CrossedCurves.{CrossesCurve}
use Rattle.plane.specs.Rule.Doubled.{IsDoubled, doubled, halved}
use Rattle.plane.specs.Rule.LeftOut.{MissesEnds}
use Rattle.plane.specs.Rule.Places.{Vector}
use Rattle.plane.specs.Rule.Plans.{Plan, curve}
use Rattle.plane.specs.Runs.Steps.{Step}
use Rattle.plane.proofs.FaceLemmas.PointFaces.{some_inner_crossing}
use Rattle.plane.proofs.FewerCurves.Paths.{joined_self}
use Rattle.plane.proofs.HalfUnits.HalvedCrossings.{IsHalfEdge, half_edge, halved_crossing}
use Rattle.plane.proofs.HalfUnits.HalvedCrossings.{halved_misses}
use Rattle.area_faults.proofs.DoubledCrossings.{doubled_crossing}
use Rattle.area_faults.proofs.PlaceNumbers.{above_number, below_number}
use Rattle.area_faults.proofs.RestNumbers.{IsAt, near, halved_at}

-- A segment crosses straight k of the rest, as seen along this half of its edge, at none of its
-- ends; its ends have the numbers of the straight's two sides.
pub record IsCrossedBy (r e : Plan) (E : ℕ → Edge) (steps : List Step) (on : IsRunOf e E steps)
    (face : Half → ℕ) (k : ℕ) (g : Edge) (p q : Vector) : Type 0 where
  pub crossing : CrossesCurve r g k p q
  pub misses : MissesEnds (curve r k) p q
  pub above : IsAt r e E steps on face p (face (over k))
  pub below : IsAt r e E steps on face q (face (under k))

module _ (r e : Plan) (double : IsDoubled r e) (straights : (k : ℕ) → k < length r.curves
    → (curve r k).kind ≡ kind.Straight)
    (E : ℕ → Edge) (steps : List Step) (on : IsRunOf e E steps) (face : Half → ℕ)
    (faces : IsFaces (drawn (pos 0) e E steps) face) (k : ℕ) (l : k < length r.curves) where
  there : k < length e.curves
  there = subst (λ (m : ℕ). k < m) (sym double.count) l

  pub half_of_edge : (g : Edge) × IsHalfEdge g (E k) (curve r k)
  half_of_edge =
      half_edge (E k) (curve r k)
      (subst (λ (c : Curve). IsEdgeOf (E k) c) (double.curves k l) (on.edges.edge k there))

  pub some_crossing : (g : Edge) → IsHalfEdge g (E k) (curve r k)
      → (p : Vector) × (q : Vector) × IsCrossedBy r e E steps on face k g p q
  some_crossing g half =
      let (p, q, x, miss) = some_inner_crossing (pos 0) e E steps on k there in (
        halved p,
        halved q,
        record {
          crossing = halved_crossing r e double straights k l g (E k) half p q x;
          misses = halved_misses r e double straights k l g (E k) half p q x miss;
          above = halved_at r e double E steps on face faces p (face (over k)) x.p_place x.p_off
              (above_number e E steps on face faces k p q there x);
          below = halved_at r e double E steps on face faces q (face (under k)) x.q_place x.q_off
              (below_number e E steps on face faces k p q there x);
        },
      )

  pub any_crossing : (g : Edge) → IsHalfEdge g (E k) (curve r k) → (p q : Vector)
      → CrossesCurve r g k p q
      → IsAt r e E steps on face p (face (over k)) × IsAt r e E steps on face q (face (under k))
  any_crossing g half p q x =
      let y = doubled_crossing r e double straights k l g (E k) half p q x in (
        near (doubled p) y.p_place y.p_off
            (above_number e E steps on face faces k (doubled p) (doubled q) there y)
            (joined_self e (doubled p) y.p_place y.p_off),
        near (doubled q) y.q_place y.q_off
            (below_number e E steps on face faces k (doubled p) (doubled q) there y)
            (joined_self e (doubled q) y.q_place y.q_off),
      )
