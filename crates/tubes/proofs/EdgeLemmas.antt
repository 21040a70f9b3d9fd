-- The edge of two points, and the edges of a drawing.
use Rattle.std.proofs.Common.{◌≡◌, ℕ, zero, suc, ◌<◌, ◌⊎◌, ◌<ℤ◌, ◌≤ℤ◌, [], ◌∷◌, inl, inr, Bool}
use Rattle.std.proofs.Common.{true, false, cond, List, length, map, get_or, refl, arith, ap, sym}
use Rattle.std.proofs.Common.{◌∙◌, subst, All}
use Rattle.std.proofs.lemmas.List.{length-map}
use Rattle.std.proofs.lemmas.Int.{ints, by_lt_z}
use Rattle.plane.specs.declared.kinds.Point.{Point}
use Rattle.plane.specs.declared.kinds.Edge.{Edge}
use Rattle.plane.specs.declared.kinds.Curve.{Curve}
use Rattle.plane.specs.declared.kinds.Placed.{Placed}
use Rattle.plane.specs.Forms.Segments.{AreEdgesOf, IsEdgeOf}
use Rattle.plane.specs.Forms.Vectors.{Before}
use Rattle.plane.specs.Rule.Plans.{Plan, curve, object}
use Rattle.plane.specs.Rule.Windows.{IsDrawn, IsInside}
use Rattle.straight_predicates.proofs.Orders.{int_less, int_equal, int_greater}
use Rattle.straight_predicates.proofs.WindowEdges.{inside_close, window_close}
use Rattle.straight_predicates.specs.EdgeLists.{AreAllClose, AreSorted, HasEnds, IsCloseToAll}
use Rattle.straight_predicates.specs.EdgeLists.{edge_of, no_edge}
use Rattle.tubes.specs.DrawnEdges.{AreStraights, comes_first, edge_from, edges_of, nth_curve}
use Rattle.tubes.specs.DrawnEdges.{straight_edge}

-- ---- the order of points as a test
pub first_is : (p q : Point) → Before p q → comes_first p q ≡ true
first_is p q (inl h) = let a = int_less p.x q.x h in rw a refl
first_is p q (inr h) =
    let a = int_equal p.x q.x h.0 in let b = int_less p.y q.y h.1 in rw (a, b) refl

pub later_is : (p q : Point) → Before q p → comes_first p q ≡ false
later_is p q (inl h) = let a = int_greater p.x q.x h in rw a refl
later_is p q (inr h) =
    let a = int_equal p.x q.x (sym h.0) in let b = int_greater p.y q.y h.1 in rw (a, b) refl

same_edge : (e f : Edge) → e.low ≡ f.low → e.high ≡ f.high → e ≡ f
same_edge e f a b = λ i. record { low = a i; high = b i }

pub one_edge : (e : Edge) (p q : Point) → Before e.low e.high → HasEnds e p q → e ≡ edge_from p q
one_edge e p q b (inl h) =
    let t : comes_first p q ≡ true = first_is p q
    (subst (λ x. Before x q) h.0 (subst (λ y. Before e.low y) h.1 b)) in
    same_edge e (record { low = p; high = q }) h.0 h.1
    ∙ ap (λ (t : Bool). cond t (record { low = p; high = q }) (record { low = q; high = p }))
    (sym t)
one_edge e p q b (inr h) =
    let t : comes_first p q ≡ false = later_is p q
    (subst (λ x. Before x p) h.0 (subst (λ y. Before e.low y) h.1 b)) in
    same_edge e (record { low = q; high = p }) h.0 h.1
    ∙ ap (λ (t : Bool). cond t (record { low = p; high = q }) (record { low = q; high = p }))
    (sym t)

-- ---- each pair of points has an edge, of which the first comes first
by_order : (p q : Point) → (p ≡ q → ⊥) → Before p q ⊎ Before q p
by_order p q n =
    by_lt_z p.x q.x (λ (l : p.x <ℤ q.x). inl (inl l)) (λ (l : q.x ≤ℤ p.x).
    by_lt_z q.x p.x (λ (k : q.x <ℤ p.x). inr (inl k)) (λ (k : p.x ≤ℤ q.x).
    let x : p.x ≡ q.x = omega (arith, ints, l, k) in
    by_lt_z p.y q.y (λ (a : p.y <ℤ q.y). inl (inr (x, a))) (λ (a : q.y ≤ℤ p.y).
    by_lt_z q.y p.y (λ (b : q.y <ℤ p.y). inr (inr (sym x, b))) (λ (b : p.y ≤ℤ q.y).
    let y : p.y ≡ q.y = omega (arith, ints, a, b) in
    absurd (n (λ i. record { x = x i; y = y i }))))))

pub edge_ends : (p q : Point) → (p ≡ q → ⊥)
    → Before (edge_from p q).low (edge_from p q).high × HasEnds (edge_from p q) p q
edge_ends p q n = elim (by_order p q n) [
  | inl b ↦ subst (λ (e : Edge). Before e.low e.high × HasEnds e p q)
      (one_edge (record { low = p; high = q }) p q b (inl (refl, refl))) (b, inl (refl, refl))
  | inr b ↦ subst (λ (e : Edge). Before e.low e.high × HasEnds e p q)
      (one_edge (record { low = q; high = p }) p q b (inr (refl, refl))) (b, inr (refl, refl))
]

-- ---- the edges of curves
edge_is : (curves : List Curve) (e : ℕ) → e < length curves
    → get_or (map straight_edge curves) e no_edge ≡ straight_edge (nth_curve curves e)
edge_is [] e l = absurd (omega (arith, l))
edge_is (c ∷ curves) zero l = refl
edge_is (c ∷ curves) (suc e) l = edge_is curves e (omega (arith, l))

pub edge_count : (d : Plan) → length (edges_of d) ≡ length d.curves
edge_count d = length-map d.curves straight_edge

edge_within : (d : Plan) (e : ℕ) → e < length (edges_of d) → e < length d.curves
edge_within d e l = let n = edge_count d in omega (arith, l, n)

-- each curve may be drawn in the window
module _ (d : Plan)
    (drawn : All (λ (c : Curve). IsDrawn d.window.low d.window.high c) d.curves) where
  ends_are : (e : ℕ) → e < length (edges_of d)
      → Before (edge_of (edges_of d) e).low (edge_of (edges_of d) e).high
      × HasEnds (edge_of (edges_of d) e) (curve d e).from (curve d e).to
  ends_are e l =
      let m = edge_within d e l in
      subst (λ (x : Edge). Before x.low x.high × HasEnds x (curve d e).from (curve d e).to)
      (sym (edge_is d.curves e m))
      (edge_ends (curve d e).from (curve d e).to (drawn e _ m).distinct)

  pub are_sorted : AreSorted (edges_of d)
  are_sorted e l = (ends_are e l).0

  inside : (e : ℕ) → e < length (edges_of d)
      → IsInside d.window.low d.window.high (edge_of (edges_of d) e).low
      × IsInside d.window.low d.window.high (edge_of (edges_of d) e).high
  inside e l =
      let c = drawn e _ (edge_within d e l) in
      elim (ends_are e l).1 [
        | inl h ↦ (
          subst (IsInside d.window.low d.window.high) (sym h.0) c.from,
          subst (IsInside d.window.low d.window.high) (sym h.1) c.to,
        )
        | inr h ↦ (
          subst (IsInside d.window.low d.window.high) (sym h.0) c.to,
          subst (IsInside d.window.low d.window.high) (sym h.1) c.from,
        )
      ]

  pub are_close : AreAllClose (edges_of d)
  are_close e f l m =
      window_close d.window.low d.window.high (edge_of (edges_of d) e)
      (edge_of (edges_of d) f) d.window.narrow (inside e l).0 (inside e l).1 (inside f m).0
      (inside f m).1

pub are_near : (d : Plan) → All (λ (c : Curve). IsDrawn d.window.low d.window.high c) d.curves
    → All (λ (p : Placed). IsInside d.window.low d.window.high p.at) d.points
    → (j : ℕ) → j < length d.points → IsCloseToAll (edges_of d) (object d j)
are_near d drawn points j l = record {
  ends = λ e m. (are_close d drawn e e m m).first;
  point = λ e m. inside_close d.window.low d.window.high (edge_of (edges_of d) e).low
      (object d j) d.window.narrow (inside d drawn e m).0 (points j _ l);
}

-- ---- the edges of a drawing of straights are those of its curves
pub drawn_edges : (d : Plan) → AreStraights d → AreEdgesOf (edge_of (edges_of d)) d
drawn_edges d s = record {
  straight = s;
  edge = λ e l. subst (λ (x : Edge). IsEdgeOf x (curve d e)) (sym (edge_is d.curves e l))
      (ends_or (curve d e).from (curve d e).to);
}
  where
    ends_or : (p q : Point)
        → ((edge_from p q).low ≡ p) × ((edge_from p q).high ≡ q) ⊎ ((edge_from p q).low ≡ q)
        × ((edge_from p q).high ≡ p)
    ends_or p q = by_test (comes_first p q)
      where
        by_test : (b : Bool)
            → HasEnds (cond b (record { low = p; high = q }) (record { low = q; high = p })) p q
        by_test true = inl (refl, refl)
        by_test false = inr (refl, refl)
