-- The edges of a curve come before those of curves of greater numbers.
use Rattle.std.proofs.Common.{◌≡◌, ℕ, zero, suc, ◌+◌, ◌<◌, ◌≤◌, List, [], ◌∷◌, length, get_or}
use Rattle.std.proofs.Common.{arith, ap}
use Rattle.plane.specs.declared.kinds.Curve.{Curve}
use Rattle.plane.specs.Forms.Vectors.{Edge}
use Rattle.plane.specs.Rule.Plans.{Plan}
use Rattle.plane.specs.Runs.Steps.{Step}
use Rattle.plane.specs.Tubes.Bays.{Bay}
use Rattle.plane.specs.CurveRuns.TubedRuns.{edges_of, owned, IsTubedRun, first_edge}
use Rattle.plane.proofs.TubedRuns.EdgeNumbers.{group_of}
use Rattle.plane.proofs.TubedRuns.OwnedEdges.{no_curve}
use Rattle.plane.proofs.TubedRuns.ArcEdges.{group_curve}

first_rises : (bays : ℕ → List Bay) (none : Curve) (j : ℕ) (cs : List Curve) (i k n : ℕ) → i < k
    → k < length cs → n ≡ j + i
    → (first_edge bays j cs i + length
    (edges_of n (get_or cs i none).kind (get_or cs i none) (bays n))) ≤ first_edge bays j cs k
first_rises bays none j [] i k n l h e = absurd (omega arith)
first_rises bays none j (c ∷ cs) i zero n l h e = absurd (omega arith)
first_rises bays none j (c ∷ cs) zero (suc k) n l h e =
    let g : length (edges_of n c.kind c (bays n))
    ≡ length (edges_of j c.kind c (bays j)) =
    ap (λ (x : ℕ). length (edges_of x c.kind c (bays x))) (omega (arith, e)) in
    omega (arith, g)
first_rises bays none j (c ∷ cs) (suc i) (suc k) n l h e =
    let g = first_rises bays none (suc j) cs i k n (omega (arith, l)) (omega (arith, h))
    (omega (arith, e)) in
    omega (arith, g)

module _ (d : Plan) (bays : ℕ → List Bay) (m : ℕ) (E : ℕ → Edge) (steps : List Step)
    (is : IsTubedRun d bays m E steps) where
  pub edge_before : (x e : ℕ) → x < m → e < m → (owned d bays x).curve < (owned d bays e).curve
      → x < e
  edge_before x e lx le l =
      let c = is.count in
      let a = group_of bays no_curve 0 d.curves x (omega (arith, c, lx)) in
      let b = group_of bays no_curve 0 d.curves e (omega (arith, c, le)) in
      let na = a.number in
      let nb = b.number in
      let oa = group_curve d bays m E steps is x a (omega (arith, na)) in
      let ob = group_curve d bays m E steps is e b (omega (arith, nb)) in
      let r = first_rises bays no_curve 0 d.curves a.index b.index a.curve
      (omega (arith, oa, ob, l)) b.fits na in
      let t = a.there in
      let p = a.is in
      let q = b.is in
      omega (arith, r, t, p, q)
