-- The edges of a list at a level, by number.
use Rattle.std.proofs.Common.{◌≡◌, inl, inr, ℕ, zero, suc, ◌<◌, Bool, true, false, cond, List, []}
use Rattle.std.proofs.Common.{◌∷◌, ◌++◌, map, length, get_or, arith, ap, refl, sym, ◌∙◌, subst}
use Rattle.std.proofs.lemmas.List.{length-map}
use Rattle.plane.specs.CurveRuns.TubedRuns as runs
use Rattle.plane.specs.Rule.Curves.{arc}
use Rattle.plane.specs.Rule.Plans.{Plan, curve}
use Rattle.plane.specs.Tubes.Bays.{Bay, IsTube}
use Rattle.plane.specs.declared.kinds.Curve.{Curve}
use Rattle.plane.specs.declared.kinds.Point.{Point}
use Rattle.straight_predicates.specs.EdgeLists.{edge_of}
use Rattle.tubes.specs.DrawnEdges.{AreAllStraight, AreStraights, comes_first, edge_from, edges_of}
use Rattle.tubes.specs.DrawnEdges.{straight_edge}
use Rattle.tubes.specs.TubedEdges.{HasTube, IsTubedList, drawn_bays, edge_as}
use Rattle.tubes.specs.declared.kinds.EdgeList.{EdgeList}
use Rattle.tubes.proofs.ChainEdges.{bays_are}
use Rattle.tubes.proofs.TubePoints.{tube_is}

pub tube_by_number : (d : Plan) (level : ℕ → ℕ) (i : ℕ) → HasTube (arc (curve d i)) (level i)
    → IsTube (arc (curve d i)) (drawn_bays d level i)
tube_by_number d level i (vs, os, t) =
    subst (IsTube (arc (curve d i))) (sym (bays_are (arc (curve d i)) (level i) vs os t))
    (tube_is (arc (curve d i)) (level i) vs os t)

pub count_by_curves : (d : Plan) (level : ℕ → ℕ) (list : EdgeList) → IsTubedList d level list
    → length list.edges.items ≡ length (runs.edge_list (drawn_bays d level) 0 d.curves)
count_by_curves d level list t = ap length t.edges
    ∙ length-map (runs.edge_list (drawn_bays d level) 0 d.curves) edge_as

joins : (p q : Point) → runs.Connects (edge_from p q) p q
joins p q = by_test (comes_first p q)
  where
    by_test : (b : Bool)
        → runs.Connects (cond b (record { low = p; high = q }) (record { low = q; high = p })) p q
    by_test true = inl (refl, refl)
    by_test false = inr (refl, refl)

mapped : (os : List runs.Owned) (e : ℕ) → e < length os
    → runs.Connects (edge_of (map edge_as os) e) (get_or os e runs.no_edge).from
    (get_or os e runs.no_edge).to
mapped [] e l = absurd (omega (arith, l))
mapped (o ∷ os) zero l = joins o.from o.to
mapped (o ∷ os) (suc e) l = mapped os e (omega (arith, l))

pub edge_by_number : (d : Plan) (level : ℕ → ℕ) (list : EdgeList) → IsTubedList d level list → (e : ℕ)
    → e < length list.edges.items
    → runs.Connects (edge_of list.edges.items e) (runs.owned d (drawn_bays d level) e).from
    (runs.owned d (drawn_bays d level) e).to
edge_by_number d level list t e l =
    subst (λ es. runs.Connects (edge_of es e) (runs.owned d (drawn_bays d level) e).from
    (runs.owned d (drawn_bays d level) e).to) (sym t.edges)
    (mapped (runs.edge_list (drawn_bays d level) 0 d.curves) e
    (subst (λ (n : ℕ). e < n) (count_by_curves d level list t) l))

-- ---- drawings of straights
as_straights : (B : ℕ → List Bay) (i : ℕ) (cs : List Curve) → AreAllStraight cs
    → map edge_as (runs.edge_list B i cs) ≡ map straight_edge cs
as_straights B i [] h = refl
as_straights B i (c ∷ cs) h =
    let e = h 0 (omega arith) in
    let r = as_straights B (suc i) cs (λ k l. h (suc k) (omega (arith, l))) in
    ap (λ k. map edge_as (runs.edges_of i k c (B i) ++ runs.edge_list B (suc i) cs)) e
    ∙ ap (λ es. straight_edge c ∷ es) r

pub straights_list : (d : Plan) (level : ℕ → ℕ) (list : EdgeList) → IsTubedList d level list
    → AreStraights d → list.edges.items ≡ edges_of d
straights_list d level list t s = t.edges ∙ as_straights (drawn_bays d level) 0 d.curves s
