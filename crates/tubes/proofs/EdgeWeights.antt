-- At most how many edges curves have up to level 5, by their kinds.
use Rattle.std.proofs.Common.{◌≡◌, ◌⊎◌, inl, inr, ℕ, suc, ◌+◌, ◌*◌, ◌<◌, ◌≤◌, ◌^◌}
use Rattle.std.proofs.Common.{List, [], ◌∷◌, length, get_or, length-append, arith, sym, subst}
use Rattle.plane.specs.CurveRuns.TubedRuns as runs
use Rattle.plane.specs.Rule.Plans.{Plan, curve}
use Rattle.plane.specs.Tubes.Bays.{Bay}
use Rattle.plane.specs.declared.kinds.Curve.{Curve}
use Rattle.plane.specs.declared.kinds.CurveKind.{CurveKind}
use Rattle.plane.specs.declared.kinds.CurveKind.TheVariants as kind
use Rattle.plane.proofs.TubedRuns.EdgeNumbers.{arc_length}
use Rattle.plane.proofs.TubedRuns.HalfArcLists.{decide_kind}
use Rattle.plane.proofs.TubedRuns.OwnedEdges.{no_curve}
use Rattle.tubes.specs.FewEdges.{HasFewEdges}
use Rattle.tubes.specs.Settled.{HaveTubes, edges_at}
use Rattle.tubes.specs.TubedEdges.{drawn_bays}
use Rattle.tubes.proofs.LevelEdges.{bay_count, edge_count, few_edges, power_most}

-- a straight has one edge, a half arc at most 129
abbrev pub most : CurveKind → ℕ
most kind.Straight = 1
most kind.HalfArc = 129

abbrev pub weight : List Curve → ℕ
weight [] = 0
weight (c ∷ cs) = most c.kind + weight cs

-- each curve has at most as many edges as its kind allows
few : (B : ℕ → List Bay) (z : Curve) (cs : List Curve) (i : ℕ)
    → ((k : ℕ) → k < length cs
    → length (runs.edges_of (i + k) (get_or cs k z).kind (get_or cs k z) (B (i + k)))
    ≤ most (get_or cs k z).kind)
    → length (runs.edge_list B i cs) ≤ weight cs
few B z [] i h = omega arith
few B z (c ∷ cs) i h =
    let a = h 0 (omega arith) in
    let b : length (runs.edges_of i c.kind c (B i)) ≤ most c.kind =
    subst (λ (k : ℕ). length (runs.edges_of k c.kind c (B k)) ≤ most c.kind) (none i) a in
    let r = few B z cs (suc i) (λ k l.
    subst (λ (j : ℕ). length (runs.edges_of j (get_or cs k z).kind (get_or cs k z) (B j))
    ≤ most (get_or cs k z).kind) (later i k) (h (suc k) (omega (arith, l)))) in
    let s = length-append (runs.edges_of i c.kind c (B i)) (runs.edge_list B (suc i) cs) in
    omega (arith, b, r, s)
  where
    none : (i : ℕ) → i + 0 ≡ i
    none i = omega arith

    later : (i k : ℕ) → i + suc k ≡ suc i + k
    later i k = omega arith

pub weighted : (d : Plan) (level : ℕ → ℕ) → ((i : ℕ) → level i ≤ 5) → HaveTubes d level
    → length (edges_at d level) ≤ weight d.curves
weighted d level low tubes =
    subst (λ (n : ℕ). n ≤ weight d.curves) (sym (edge_count d level))
    (few (drawn_bays d level) no_curve d.curves 0 each)
  where
    by_kind : (i : ℕ) → i < length d.curves
        → ((curve d i).kind ≡ kind.Straight) ⊎ ((curve d i).kind ≡ kind.HalfArc)
        → length (runs.edges_of i (curve d i).kind (curve d i) (drawn_bays d level i))
        ≤ most (curve d i).kind
    by_kind i l (inl e) =
        subst (λ (x : CurveKind).
        length (runs.edges_of i x (curve d i) (drawn_bays d level i)) ≤ most x) (sym e)
        (omega arith)
    by_kind i l (inr e) =
        let a = arc_length i (curve d i) (drawn_bays d level i) in
        let b = bay_count d level i (tubes i (record { there = l; kind = e })) in
        let p = power_most (level i) (low i) in
        subst (λ (x : CurveKind).
        length (runs.edges_of i x (curve d i) (drawn_bays d level i)) ≤ most x) (sym e)
        (omega (arith, a, b, p))

    first : (k : ℕ) → k ≡ 0 + k
    first k = omega arith

    each : (k : ℕ) → k < length d.curves
        → length (runs.edges_of (0 + k) (curve d k).kind (curve d k) (drawn_bays d level (0 + k)))
        ≤ most (curve d k).kind
    each k l =
        subst (λ (i : ℕ). length (runs.edges_of i (curve d k).kind (curve d k)
        (drawn_bays d level i)) ≤ most (curve d k).kind) (first k)
        (by_kind k l (decide_kind (curve d k).kind))

pub few_of_curves : (d : Plan) → length d.curves ≤ 16000000 → HasFewEdges d
few_of_curves d few_ level low tubes =
    let a = few_edges d level low tubes in
    omega (arith, a, few_)
