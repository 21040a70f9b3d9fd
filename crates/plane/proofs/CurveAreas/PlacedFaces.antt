-- The face number of a point that has a place in a run: in a tube that beside the chain on its side
-- of the circle, in a cell that over the lower edge.
use Rattle.std.proofs.Common.{◌≡◌, ℕ, List, ℤ, pos, ◌<ℤ◌, inl, inr, refl, ap, ◌∙◌}
use Rattle.plane.specs.declared.kinds.Point.{Point}
use Rattle.plane.specs.Forms.Vectors.{point, Edge}
use Rattle.plane.specs.Rule.HalfArcs.{power}
use Rattle.plane.specs.Rule.Curves.{arc}
use Rattle.plane.specs.Rule.Plans.{Plan, curve}
use Rattle.plane.specs.Runs.Steps.{Step}
use Rattle.plane.specs.Faces.Replays.{replay}
use Rattle.plane.specs.Faces.Halves.{Half, over, AtBefore}
use Rattle.plane.specs.Faces.Classes.{numbers}
use Rattle.plane.specs.Faces.PlacedPoints.{IsLocated}
use Rattle.plane.specs.Tubes.Bays.{Bay}
use Rattle.plane.specs.CurveRuns.Levels.{beside_inner, beside_outer}
use Rattle.plane.specs.CurveRuns.FacedTubes.{faced, LiesInTube}
use Rattle.plane.specs.CurveRuns.FacePlaces.{PointHasFace}
use Rattle.plane.proofs.FaceLemmas.FaceNumbers.{label_before}
use Rattle.plane.proofs.FaceLemmas.PlacedPoints.{one_before}

module _ (w : ℤ) (d : Plan) (bays : ℕ → List Bay) (m : ℕ) (E : ℕ → Edge) (steps : List Step)
    (face : Half → ℕ) (v : Point) where
  pub tube_inside : (c : ℕ) → LiesInTube d bays c v → power (arc (curve d c)) (point v) <ℤ pos 0
      → PointHasFace d bays (replay w m E steps) face v (beside_inner d bays E face c)
  tube_inside c h l =
      inr (record {
        number = c;
        fits = h.there;
        bent = h.bent;
        holds = h.holds;
        side = inl (l, refl);
      })

  pub tube_outside : (c : ℕ) → LiesInTube d bays c v → pos 0 <ℤ power (arc (curve d c)) (point v)
      → PointHasFace d bays (replay w m E steps) face v (beside_outer d bays E face c)
  tube_outside c h l =
      inr (record {
        number = c;
        fits = h.there;
        bent = h.bent;
        holds = h.holds;
        side = inr (l, refl);
      })

  pub in_cell : (k i e : ℕ) → IsLocated (replay w m E steps) v k i
      → AtBefore ((replay w m E steps).list k) i e → faced d bays E (over e) ≡ 0
      → PointHasFace d bays (replay w m E steps) face v (face (over e))
  in_cell k i e p b t = inl (record {
    strip = k;
    index = i;
    located = p;
    clear = λ x n. ap (λ (y : ℕ). faced d bays E (over y))
        (one_before ((replay w m E steps).list k) i x e n b) ∙ t;
    number = label_before (numbers face) 0 i ((replay w m E steps).list k) e b;
  })

  pub at_border : (k : ℕ) → IsLocated (replay w m E steps) v k 0
      → PointHasFace d bays (replay w m E steps) face v 0
  at_border k p =
      inl (record { strip = k; index = 0; located = p; clear = λ x n. absurd n; number = refl })
