-- The edges of a drawing at a level by number: where the chains of a tube stand, whose an edge is,
-- and how many there are.
use Rattle.std.proofs.Common.{◌≡◌, ◌↔◌, ◌⊎◌, inl, inr, ℕ, zero, suc, ◌+◌, ◌*◌, ◌-◌, ◌<◌, ◌≤◌, ◌^◌}
use Rattle.std.proofs.Common.{List, [], ◌∷◌, map, length, get_or, length-append, arith, ap, refl}
use Rattle.std.proofs.Common.{sym, ◌∙◌, subst}
use Rattle.std.proofs.lemmas.List.{length-map}
use Rattle.plane.specs.CurveRuns.TubedRuns as runs
use Rattle.plane.specs.Rule.Curves.{arc}
use Rattle.plane.specs.Rule.Plans.{IsHalfArc, IsStraight, Plan, curve}
use Rattle.plane.specs.Tubes.Bays.{Bay}
use Rattle.plane.specs.declared.kinds.Curve.{Curve}
use Rattle.plane.specs.declared.kinds.CurveKind.{CurveKind}
use Rattle.plane.specs.declared.kinds.CurveKind.TheVariants as kind
use Rattle.plane.proofs.TubedRuns.EdgeNumbers.{arc_inner, arc_length, arc_outer, from_at, group_at}
use Rattle.plane.proofs.TubedRuns.EdgeNumbers.{group_fits, group_of}
use Rattle.plane.proofs.TubedRuns.HalfArcLists.{decide_kind}
use Rattle.plane.proofs.TubedRuns.OwnedEdges.{no_curve}
use Rattle.straight_predicates.proofs.Orders.{by_lt}
use Rattle.tubes.specs.Settled.{HaveTubes, edges_at, owned_at}
use Rattle.tubes.specs.TubedEdges.{HasTube, IsTubedList, drawn_bays, edge_as, owner_as}
use Rattle.tubes.specs.declared.kinds.EdgeList.{EdgeList}
use Rattle.tubes.specs.declared.kinds.Owner.{Owner}
use Rattle.tubes.proofs.ChainEdges.{bays_are}
use Rattle.tubes.proofs.TubePoints.{power_positive, tube_count}

pub edge_count : (d : Plan) (level : ℕ → ℕ)
    → length (edges_at d level) ≡ length (runs.edge_list (drawn_bays d level) 0 d.curves)
edge_count d level = length-map (runs.edge_list (drawn_bays d level) 0 d.curves) edge_as

pub bay_count : (d : Plan) (level : ℕ → ℕ) (i : ℕ) → HasTube (arc (curve d i)) (level i)
    → length (drawn_bays d level i) ≡ 2 ^ (level i + 1)
bay_count d level i (vs, os, t) = ap length (bays_are (arc (curve d i)) (level i) vs os t)
    ∙ tube_count (arc (curve d i)) (level i) vs os t

pub some_bay : (d : Plan) (level : ℕ → ℕ) (i : ℕ) → HasTube (arc (curve d i)) (level i)
    → 0 < length (drawn_bays d level i)
some_bay d level i t =
    subst (λ (n : ℕ). 0 < n) (sym (bay_count d level i t)) (power_positive (level i + 1))

-- ---- the edges of a curve, by their place among them
module _ (d : Plan) (level : ℕ → ℕ) where
  abbrev bays : ℕ → List Bay
  bays = drawn_bays d level

  abbrev first : ℕ → ℕ
  first i = runs.first_edge bays 0 d.curves i

  abbrev of_kind : ℕ → CurveKind → List runs.Owned
  of_kind i k = runs.edges_of i k (curve d i) (bays i)

  placed : (i k : ℕ) (kd : CurveKind) → i < length d.curves → (curve d i).kind ≡ kd
      → k < length (of_kind i kd)
      → ((first i + k) < length (edges_at d level))
      × (owned_at d level (first i + k) ≡ get_or (of_kind i kd) k runs.no_edge)
  placed i k kd l e h =
      let there : k < length (of_kind i (curve d i).kind) = subst
      (λ (x : CurveKind). k < length (of_kind i x)) (sym e) h in
      let fits = group_fits bays no_curve 0 d.curves i i l (omega arith) in
      let count = edge_count d level in (
        omega (arith, fits, there, count),
        from_at (owned_at d level) (first i) k _
            (group_at bays no_curve 0 d.curves i i l (omega arith)) there
            ∙ ap (λ (x : CurveKind). get_or (of_kind i x) k runs.no_edge) e,
      )

  -- edge e is of curve i
  pub record IsOf (e i : ℕ) (of : runs.Part) : Type 0 where
    pub there : e < length (edges_at d level)
    pub curve : (owned_at d level e).curve ≡ i
    pub part : (owned_at d level e).part ≡ of

  pub inner_edge : (i k : ℕ) → IsHalfArc d i → k < length (bays i) → IsOf (first i + k) i runs.inner
  inner_edge i k h l =
      let size = arc_length i (curve d i) (bays i) in
      let p = placed i k kind.HalfArc h.there h.kind (omega (arith, size, l)) in
      let o = arc_inner i (curve d i) (bays i) k l in
      record {
        there = p.0;
        curve = ap (λ (w : runs.Owned). w.curve) p.1 ∙ o.0;
        part = ap (λ (w : runs.Owned). w.part) p.1 ∙ o.1;
      }

  pub outer_edge : (i k : ℕ) → IsHalfArc d i → k < suc (length (bays i))
      → IsOf (first i + (length (bays i) + k)) i runs.outer
  outer_edge i k h l =
      let size = arc_length i (curve d i) (bays i) in
      let p = placed i (length (bays i) + k) kind.HalfArc h.there h.kind (omega (arith, size, l)) in
      let o = arc_outer i (curve d i) (bays i) k l in
      record {
        there = p.0;
        curve = ap (λ (w : runs.Owned). w.curve) p.1 ∙ o.0;
        part = ap (λ (w : runs.Owned). w.part) p.1 ∙ o.1;
      }

  pub first_inner : (i : ℕ) → IsHalfArc d i → HasTube (arc (curve d i)) (level i)
      → IsOf (first i) i runs.inner
  first_inner i h t =
      subst (λ (n : ℕ). IsOf n i runs.inner) (omega arith) (inner_edge i 0 h (some_bay d level i t))

  pub first_outer : (i : ℕ) → IsHalfArc d i → IsOf (first i + length (bays i)) i runs.outer
  first_outer i h =
      subst (λ (n : ℕ). IsOf n i runs.outer) (omega arith) (outer_edge i 0 h (omega arith))

  -- ---- whose an edge is
  pub data IsOwned (e : ℕ) : Type 0 where
    of_straight : (i : ℕ) → IsStraight d i → IsOf e i runs.whole → IsOwned e
    of_inner : (i : ℕ) → IsHalfArc d i → IsOf e i runs.inner → IsOwned e
    of_outer : (i : ℕ) → IsHalfArc d i → IsOf e i runs.outer → IsOwned e

  of_arc : (e i k : ℕ) → IsHalfArc d i → k < length (of_kind i kind.HalfArc) → e ≡ first i + k
      → IsOwned e
  of_arc e i k h l s =
      let size = arc_length i (curve d i) (bays i) in
      by_lt k (length (bays i))
      (λ (b : k < length (bays i)). of_inner i h
      (subst (λ (n : ℕ). IsOf n i runs.inner) (sym s) (inner_edge i k h b)))
      (λ (b : length (bays i) ≤ k).
      of_outer i h
      (subst (λ (n : ℕ). IsOf n i runs.outer) (omega (arith, s, b))
      (outer_edge i (k - length (bays i)) h (omega (arith, b, size, l)))))

  of_one : (e i k : ℕ) → IsStraight d i → k < 1 → e ≡ first i + k → IsOwned e
  of_one e i k h l s =
      let p = placed i 0 kind.Straight h.there h.kind (omega arith) in
      of_straight i h (subst (λ (n : ℕ). IsOf n i runs.whole) (omega (arith, s, l))
      (record {
        there = p.0;
        curve = ap (λ (w : runs.Owned). w.curve) p.1;
        part = ap (λ (w : runs.Owned). w.part) p.1;
      }))

  pub owner_of : (e : ℕ) → e < length (edges_at d level) → IsOwned e
  owner_of e l =
      let g = group_of bays no_curve 0 d.curves e
      (subst (λ (n : ℕ). e < n) (edge_count d level) l) in
      let n : g.curve ≡ g.index = (let a = g.number in omega (arith, a)) in
      let there = subst
      (λ (y : ℕ). g.place < length
      (runs.edges_of y (curve d g.index).kind (curve d g.index) (bays y))) n g.there in
      by_kind g.index g.place g.fits there g.is (decide_kind (curve d g.index).kind)
    where
      by_kind : (i k : ℕ) → i < length d.curves → k < length (of_kind i (curve d i).kind)
          → e ≡ first i + k → ((curve d i).kind ≡ kind.Straight) ⊎ ((curve d i).kind ≡ kind.HalfArc)
          → IsOwned e
      by_kind i k fits there s (inl q) =
          of_one e i k (record { there = fits; kind = q })
          (subst (λ (x : CurveKind). k < length (of_kind i x)) q there) s
      by_kind i k fits there s (inr q) =
          of_arc e i k (record { there = fits; kind = q })
          (subst (λ (x : CurveKind). k < length (of_kind i x)) q there) s

  pub owner_within : (e : ℕ) → e < length (edges_at d level)
      → (owned_at d level e).curve < length d.curves
  owner_within e l = by_owner (owner_of e l)
    where
      within : (i : ℕ) → i < length d.curves → (owned_at d level e).curve ≡ i
          → (owned_at d level e).curve < length d.curves
      within i b c = subst (λ (n : ℕ). n < length d.curves) (sym c) b

      by_owner : IsOwned e → (owned_at d level e).curve < length d.curves
      by_owner (of_straight i h o) = within i h.there o.curve
      by_owner (of_inner i h o) = within i h.there o.curve
      by_owner (of_outer i h o) = within i h.there o.curve

  not_both : {X : Type 0} (i : ℕ) → IsStraight d i → IsHalfArc d i → X
  not_both i s h = let e = sym s.kind ∙ h.kind in cc

  pub of_half_arc : (e : ℕ) → e < length (edges_at d level)
      → runs.IsOfTube (owned_at d level e).part ↔ IsHalfArc d (owned_at d level e).curve
  of_half_arc e l = by_owner (owner_of e l)
    where
      by_owner : IsOwned e
          → runs.IsOfTube (owned_at d level e).part ↔ IsHalfArc d (owned_at d level e).curve
      by_owner (of_straight i h o) = (
        (λ t. absurd (subst runs.IsOfTube o.part t)),
        (λ t. not_both i h (subst (IsHalfArc d) o.curve t)),
      )
      by_owner (of_inner i h o) =
          ((λ t. subst (IsHalfArc d) (sym o.curve) h), (λ t. subst runs.IsOfTube (sym o.part) tt))
      by_owner (of_outer i h o) =
          ((λ t. subst (IsHalfArc d) (sym o.curve) h), (λ t. subst runs.IsOfTube (sym o.part) tt))

  pub of_a_straight : (e : ℕ) → e < length (edges_at d level)
      → ((owned_at d level e).part ≡ runs.whole) ↔ IsStraight d (owned_at d level e).curve
  of_a_straight e l = by_owner (owner_of e l)
    where
      by_owner : IsOwned e
          → ((owned_at d level e).part ≡ runs.whole) ↔ IsStraight d (owned_at d level e).curve
      by_owner (of_straight i h o) = ((λ t. subst (IsStraight d) (sym o.curve) h), (λ t. o.part))
      by_owner (of_inner i h o) = (
        (λ t. let f = sym t ∙ o.part in cc),
        (λ t. not_both i (subst (IsStraight d) o.curve t) h),
      )
      by_owner (of_outer i h o) = (
        (λ t. let f = sym t ∙ o.part in cc),
        (λ t. not_both i (subst (IsStraight d) o.curve t) h),
      )

-- ---- how many there are
-- each curve has at most n edges
few : (B : ℕ → List Bay) (n : ℕ) (z : Curve) (cs : List Curve) (i : ℕ)
    → ((k : ℕ) → k < length cs
    → length (runs.edges_of (i + k) (get_or cs k z).kind (get_or cs k z) (B (i + k))) ≤ n)
    → length (runs.edge_list B i cs) ≤ (n * length cs)
few B n z [] i h = omega arith
few B n z (c ∷ cs) i h =
    let a = h 0 (omega arith) in
    let b : length (runs.edges_of i c.kind c (B i)) ≤ n = subst
    (λ (k : ℕ). length (runs.edges_of k c.kind c (B k)) ≤ n) (none i) a in
    let r = few B n z cs (suc i)
    (λ k l. subst
    (λ (j : ℕ). length (runs.edges_of j (get_or cs k z).kind (get_or cs k z) (B j)) ≤ n)
    (later i k) (h (suc k) (omega (arith, l)))) in
    let s = length-append (runs.edges_of i c.kind c (B i)) (runs.edge_list B (suc i) cs) in
    omega (arith, b, r, s)
  where
    none : (i : ℕ) → i + 0 ≡ i
    none i = omega arith

    later : (i k : ℕ) → i + suc k ≡ suc i + k
    later i k = omega arith

pub power_most : (level : ℕ) → level ≤ 5 → 2 ^ (level + 1) ≤ 64
power_most zero l = omega arith
power_most (suc zero) l = omega arith
power_most (suc (suc zero)) l = omega arith
power_most (suc (suc (suc zero))) l = omega arith
power_most (suc (suc (suc (suc zero)))) l = omega arith
power_most (suc (suc (suc (suc (suc zero))))) l = omega arith
power_most (suc (suc (suc (suc (suc (suc n)))))) l = absurd (omega (arith, l))

pub few_edges : (d : Plan) (level : ℕ → ℕ) → ((i : ℕ) → level i ≤ 5) → HaveTubes d level
    → length (edges_at d level) ≤ (129 * length d.curves)
few_edges d level low tubes =
    subst (λ (n : ℕ). n ≤ (129 * length d.curves)) (sym (edge_count d level))
    (few (drawn_bays d level) 129 no_curve d.curves 0 each)
  where
    by_kind : (i : ℕ) → i < length d.curves
        → ((curve d i).kind ≡ kind.Straight) ⊎ ((curve d i).kind ≡ kind.HalfArc)
        → length (runs.edges_of i (curve d i).kind (curve d i) (drawn_bays d level i)) ≤ 129
    by_kind i l (inl e) =
        subst (λ (x : CurveKind). length
        (runs.edges_of i x (curve d i) (drawn_bays d level i)) ≤ 129) (sym e) (omega arith)
    by_kind i l (inr e) =
        let a = arc_length i (curve d i) (drawn_bays d level i) in
        let b = bay_count d level i (tubes i (record { there = l; kind = e })) in
        let p = power_most (level i) (low i) in
        subst (λ (x : CurveKind). length
        (runs.edges_of i x (curve d i) (drawn_bays d level i)) ≤ 129) (sym e)
        (omega (arith, a, b, p))

    first : (k : ℕ) → k ≡ 0 + k
    first k = omega arith

    each : (k : ℕ) → k < length d.curves
        → length (runs.edges_of (0 + k) (curve d k).kind (curve d k)
        (drawn_bays d level (0 + k))) ≤ 129
    each k l = subst
        (λ (n : ℕ). length
        (runs.edges_of n (curve d k).kind (curve d k) (drawn_bays d level n)) ≤ 129) (first k)
        (by_kind k l (decide_kind (curve d k).kind))

-- ---- a list at the level
pub list_sizes : (d : Plan) (level : ℕ → ℕ) (list : EdgeList) → IsTubedList d level list
    → length list.owners.items ≡ length list.edges.items
list_sizes d level list t = ap length t.owners
    ∙ length-map (runs.edge_list (drawn_bays d level) 0 d.curves) owner_as
    ∙ sym (ap length t.edges ∙ edge_count d level)

pub owner_by_number : (d : Plan) (level : ℕ → ℕ) (list : EdgeList) (z : Owner) (e : ℕ)
    → IsTubedList d level list → e < length list.edges.items
    → get_or list.owners.items e z ≡ owner_as (owned_at d level e)
owner_by_number d level list z e t l =
    ap (λ (os : List Owner). get_or os e z) t.owners
    ∙ mapped (runs.edge_list (drawn_bays d level) 0 d.curves) e
    (subst (λ (n : ℕ). e < n) (ap length t.edges ∙ edge_count d level) l)
  where
    mapped : (os : List runs.Owned) (k : ℕ) → k < length os
        → get_or (map owner_as os) k z ≡ owner_as (get_or os k runs.no_edge)
    mapped [] k l = absurd (omega (arith, l))
    mapped (o ∷ os) zero l = refl
    mapped (o ∷ os) (suc k) l = mapped os k (omega (arith, l))
