-- Whose the edges of a run over an edge list are: each straight has one edge, each other edge is of
-- the tube of a half arc.
use Rattle.std.proofs.Common.{◌≡◌, ℕ, ◌+◌, ◌-◌, ◌<◌, ◌≤◌, List, length, get_or, ◌⊎◌, inl, inr, pos}
use Rattle.std.proofs.Common.{arith, ap, sym, ◌∙◌, subst}
use Rattle.plane.specs.declared.kinds.Curve.{Curve}
use Rattle.plane.specs.declared.kinds.CurveKind.{CurveKind}
use Rattle.plane.specs.declared.kinds.CurveKind.TheVariants as kind
use Rattle.plane.specs.Forms.Vectors.{Edge}
use Rattle.plane.specs.Forms.Segments.{IsEdgeOf}
use Rattle.plane.specs.Rule.Plans.{Plan, curve, straight}
use Rattle.plane.specs.Runs.Steps.{Step}
use Rattle.plane.specs.Tubes.Bays.{Bay}
use Rattle.plane.specs.CurveRuns.TubedRuns.{whole, Owned, edges_of, no_edge, owned, Connects}
use Rattle.plane.specs.CurveRuns.TubedRuns.{IsOfTube, IsTubedRun, first_edge}
use Rattle.plane.proofs.Windings.Under.{by_order}
use Rattle.plane.proofs.TubedRuns.EdgeNumbers.{from_at, group_at, group_fits, group_of, arc_length}
use Rattle.plane.proofs.TubedRuns.EdgeNumbers.{arc_inner, arc_outer}
use Rattle.plane.proofs.TubedRuns.HalfArcLists.{decide_kind}

abbrev pub no_curve : Curve
no_curve = straight (record { x = pos 0; y = pos 0 }) (record { x = pos 0; y = pos 0 }) 0

module _ (d : Plan) (bays : ℕ → List Bay) (m : ℕ) (E : ℕ → Edge) (steps : List Step)
    (is : IsTubedRun d bays m E steps) where
  abbrev f : ℕ → Owned
  f e = owned d bays e

  -- edge x is that of a straight
  pub record IsOfStraight (x : ℕ) : Type 0 where
    pub index : ℕ
    pub fits : index < length d.curves
    pub number : (f x).curve ≡ index
    pub straight : (curve d index).kind ≡ kind.Straight
    pub edge : IsEdgeOf (E x) (curve d index)
    pub part : (f x).part ≡ whole

  -- edge x is of the tube of a half arc
  pub record IsOfArc (x : ℕ) : Type 0 where
    pub index : ℕ
    pub fits : index < length d.curves
    pub number : (f x).curve ≡ index
    pub bent : (curve d index).kind ≡ kind.HalfArc
    pub part : IsOfTube (f x).part
    pub from : first_edge bays 0 d.curves index ≤ x
    pub below : x < (first_edge bays 0 d.curves index
        + length (edges_of index kind.HalfArc (curve d index) (bays index)))

  straight_is : (x i : ℕ) → x < m → i < length d.curves → (curve d i).kind ≡ kind.Straight
      → f x ≡ record { from = (curve d i).from; to = (curve d i).to; curve = i; part = whole }
      → IsOfStraight x
  straight_is x i l k e q = record {
    index = i;
    fits = k;
    number = ap (λ (y : Owned). y.curve) q;
    straight = e;
    edge = subst (λ (y : Owned). Connects (E x) y.from y.to) q (is.edge x l);
    part = ap (λ (y : Owned). y.part) q;
  }

  -- edge x, from its place among those of its curve
  place_is : (x i k : ℕ) → i < length d.curves
      → k < length (edges_of i (curve d i).kind (curve d i) (bays i))
      → x ≡ first_edge bays 0 d.curves i + k
      → f x ≡ get_or (edges_of i (curve d i).kind (curve d i) (bays i)) k no_edge
  place_is x i k l h e =
      ap f e ∙ from_at f (first_edge bays 0 d.curves i) k _
      (group_at bays no_curve 0 d.curves i i l (omega arith)) h

  zero_place : (k : ℕ) → k < 1 → k ≡ 0
  zero_place k l = omega (arith, l)

  pub owner_is : (x : ℕ) → x < m → IsOfStraight x ⊎ IsOfArc x
  owner_is x l =
      let g = group_of bays no_curve 0 d.curves x (let a = is.count in omega (arith, a, l)) in
      let n : g.curve ≡ g.index = (let a = g.number in omega (arith, a)) in
      let there = subst
      (λ (y : ℕ). g.place < length
      (edges_of y (curve d g.index).kind (curve d g.index) (bays y))) n g.there in
      by_kind g.index g.place g.fits there g.is (place_is x g.index g.place g.fits there g.is)
      (decide_kind (curve d g.index).kind)
    where
      of_arc : (i k : ℕ) → i < length d.curves → (curve d i).kind ≡ kind.HalfArc
          → k < length (edges_of i kind.HalfArc (curve d i) (bays i))
          → x ≡ first_edge bays 0 d.curves i + k
          → f x ≡ get_or (edges_of i kind.HalfArc (curve d i) (bays i)) k no_edge → IsOfArc x
      of_arc i k fits bent there at q =
          let size = arc_length i (curve d i) (bays i) in
          by_order k (length (bays i))
          (λ (h : k < length (bays i)).
          let o = arc_inner i (curve d i) (bays i) k h in
          record {
            index = i;
            fits = fits;
            number = ap (λ (y : Owned). y.curve) q ∙ o.0;
            bent = bent;
            part = subst IsOfTube (sym (ap (λ (y : Owned). y.part) q ∙ o.1)) tt;
            from = omega (arith, at);
            below = omega (arith, at, there);
          })
          (λ (h : length (bays i) ≤ k).
          let o = arc_outer i (curve d i) (bays i) (k - length (bays i))
          (omega (arith, h, size, there)) in
          let e : k ≡ length (bays i) + (k - length (bays i)) = omega (arith, h) in
          let p = q ∙ ap
          (λ (y : ℕ). get_or (edges_of i kind.HalfArc (curve d i) (bays i)) y no_edge) e in
          record {
            index = i;
            fits = fits;
            number = ap (λ (y : Owned). y.curve) p ∙ o.0;
            bent = bent;
            part = subst IsOfTube (sym (ap (λ (y : Owned). y.part) p ∙ o.1)) tt;
            from = omega (arith, at);
            below = omega (arith, at, there);
          })

      by_kind : (i k : ℕ) → i < length d.curves
          → k < length (edges_of i (curve d i).kind (curve d i) (bays i))
          → x ≡ first_edge bays 0 d.curves i + k
          → f x ≡ get_or (edges_of i (curve d i).kind (curve d i) (bays i)) k no_edge
          → ((curve d i).kind ≡ kind.Straight) ⊎ ((curve d i).kind ≡ kind.HalfArc)
          → IsOfStraight x ⊎ IsOfArc x
      by_kind i k fits there at q (inl e) =
          let zero : k
          ≡ 0 = zero_place k
          (subst (λ (kd : CurveKind). k < length (edges_of i kd (curve d i) (bays i))) e
          there) in
          inl (straight_is x i l fits e (q
          ∙ ap (λ (kd : CurveKind). get_or (edges_of i kd (curve d i) (bays i)) k no_edge) e
          ∙ ap (λ (y : ℕ). get_or (edges_of i kind.Straight (curve d i) (bays i)) y no_edge)
          zero))
      by_kind i k fits there at q (inr e) =
          inr (of_arc i k fits e
          (subst (λ (kd : CurveKind). k < length (edges_of i kd (curve d i) (bays i))) e there)
          at (q ∙ ap (λ (kd : CurveKind). get_or (edges_of i kd (curve d i) (bays i)) k no_edge)
          e))

  -- each straight has its edge
  pub straight_edge : (i : ℕ) → i < length d.curves → (curve d i).kind ≡ kind.Straight
      → (x : ℕ) × (x < m) × ((f x).curve ≡ i) × IsEdgeOf (E x) (curve d i) × ((f x).part ≡ whole)
  straight_edge i l e =
      let x = first_edge bays 0 d.curves i in
      let fits = group_fits bays no_curve 0 d.curves i i l (omega arith) in
      let one : length (edges_of i (curve d i).kind (curve d i) (bays i))
      ≡ 1 = ap (λ (kd : CurveKind). length (edges_of i kd (curve d i) (bays i))) e in
      let count = is.count in
      let k : x < m = omega (arith, fits, one, count) in
      let q = place_is x i 0 l (omega (arith, one)) (omega arith)
      ∙ ap (λ (kd : CurveKind). get_or (edges_of i kd (curve d i) (bays i)) 0 no_edge) e in
      let s = straight_is x i k l e q in (
        x,
        k,
        ap (λ (y : Owned). y.curve) q,
        subst (λ (y : Owned). Connects (E x) y.from y.to) q (is.edge x k),
        ap (λ (y : Owned). y.part) q,
      )
