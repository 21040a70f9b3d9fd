-- The edges of the rest in half units rise, and are close to each other and to the points that are
-- located.
use Rattle.std.proofs.Common.{◌≡◌, ℕ, ◌+◌, ◌-◌, ◌<◌, List, length, slice_index, slice_index_or}
use Rattle.std.proofs.Common.{arith, inl, inr, sym, subst, All}
use Rattle.std.proofs.lemmas.Bool.{cases_lt}
use Rattle.std.proofs.lemmas.List.{get_or-map, length-map}
use Rattle.plane.specs.declared.kinds.Curve.{Curve}
use Rattle.plane.specs.declared.kinds.Edge.{Edge}
use Rattle.plane.specs.declared.kinds.Placed.{Placed}
use Rattle.plane.specs.declared.kinds.Point.{Point}
use Rattle.plane.specs.declared.window.Window2.{Window2}
use Rattle.plane.specs.Faces.RestRuns.{sum}
use Rattle.plane.specs.Forms.Vectors.{Before}
use Rattle.plane.specs.Rule.Doubled.{twice, twice_curve}
use Rattle.plane.specs.Rule.Plans.{Plan, curve, object}
use Rattle.plane.specs.Rule.Windows.{IsDrawn, IsInside, IsNarrow}
use Rattle.straight_predicates.specs.EdgeLists.{AreAllClose, AreSorted, HasEnds, IsCloseToAll}
use Rattle.straight_predicates.specs.EdgeLists.{edge_of, no_edge, no_point}
use Rattle.straight_predicates.specs.Meetings.{AreClose}
use Rattle.tubes.specs.DrawnEdges.{edge_from, straight_edge}
use Rattle.tubes.proofs.EdgeLemmas.{edge_ends}
use Rattle.area_faults.specs.RestFaces.{IsWritten, half_edges, half_points}
use Rattle.area_faults.proofs.HalfUnits.{IsInHalves, halves_near, inside_short, sum_inside}
use Rattle.area_faults.proofs.HalfUnits.{twice_inside, twice_once}
use Rattle.area_faults.proofs.PlacedFaces.{middle_point, object_point, points_count}

-- a curve of a window has few digits
pub written : (w : Window2) (c : Curve) → IsDrawn w.low w.high c → IsWritten c
written w c h = record {
  from = inside_short w.low w.high c.from w.low_digits w.high_digits h.from;
  to = inside_short w.low w.high c.to w.low_digits w.high_digits h.to;
  distinct = h.distinct;
}

-- The edge rises, and has its ends in the window.
pub record IsHeld (low high : Point) (x : Edge) : Type 0 where
  pub sorted : Before x.low x.high
  pub first : IsInHalves low high x.low
  pub second : IsInHalves low high x.high

held : (low high p q : Point) → (p ≡ q → ⊥) → IsInHalves low high p → IsInHalves low high q
    → IsHeld low high (edge_from p q)
held low high p q n a b = let r = edge_ends p q n in by_ends r.0 r.1
  where
    by_ends : Before (edge_from p q).low (edge_from p q).high → HasEnds (edge_from p q) p q
        → IsHeld low high (edge_from p q)
    by_ends s (inl h) = record {
      sorted = s;
      first = subst (IsInHalves low high) (sym h.0) a;
      second = subst (IsInHalves low high) (sym h.1) b;
    }
    by_ends s (inr h) = record {
      sorted = s;
      first = subst (IsInHalves low high) (sym h.0) b;
      second = subst (IsInHalves low high) (sym h.1) a;
    }

module _ (d : Plan) (low high : Point) (narrow : IsNarrow low high)
    (drawn : All (λ (c : Curve). IsDrawn low high c) d.curves) (kept : List ℕ)
    (known : (m : ℕ) → m < length kept → slice_index kept m < length d.curves) where
  each_held : (m : ℕ) → m < length (half_edges d kept)
      → IsHeld low high (edge_of (half_edges d kept) m)
  each_held m l =
      let n = length-map kept (λ (i : ℕ). straight_edge (twice_curve (curve d i))) in
      let k : m < length kept = omega (arith, l, n) in
      let c = curve d (slice_index kept m) in
      let h : IsDrawn low high c = drawn (slice_index kept m) _ (known m k) in
      subst (IsHeld low high)
      (sym (get_or-map (λ (i : ℕ). straight_edge (twice_curve (curve d i))) kept m 0 no_edge k))
      (held low high (twice c.from) (twice c.to) (λ e. h.distinct (twice_once c.from c.to e))
      (twice_inside low high c.from h.from) (twice_inside low high c.to h.to))

  near : (p q : Point) → IsInHalves low high p → IsInHalves low high q → AreClose p q
  near p q a b = halves_near low high p q narrow a b

  pub edges_sorted : AreSorted (half_edges d kept)
  edges_sorted m l = (each_held m l).sorted

  pub edges_close : AreAllClose (half_edges d kept)
  edges_close m n l k =
      let a = each_held m l in
      let b = each_held n k in
      record {
        first = near _ _ a.first a.second;
        second = near _ _ b.first b.second;
        low_low = near _ _ a.first b.first;
        low_high = near _ _ a.first b.second;
        high_low = near _ _ a.second b.first;
        high_high = near _ _ a.second b.second;
      }

  close_to : (p : Point) → IsInHalves low high p → IsCloseToAll (half_edges d kept) p
  close_to p h = record {
    ends = λ m l. let a = each_held m l in near _ _ a.first a.second;
    point = λ m l. let a = each_held m l in near _ _ a.first h;
  }

  pub points_close : All (λ (p : Placed). IsInside low high p.at) d.points → (left : List ℕ)
      → ((m : ℕ) → m < length left → slice_index left m < length d.curves)
      → (j : ℕ) → j < length (half_points d left)
      → IsCloseToAll (half_edges d kept) (slice_index_or (half_points d left) j no_point)
  points_close inside left there j l = elim (cases_lt j (length d.points)) [
    | inl k ↦ subst (IsCloseToAll (half_edges d kept)) (sym (object_point d left j k))
        (close_to (twice (object d j)) (twice_inside low high (object d j) (inside j _ k)))
    | inr k ↦ (
        let n = points_count d left in
        let m = j - length d.points in
        let lm : m < length left = omega (arith, k, l, n) in
        let s : length d.points + m ≡ j = omega (arith, k) in
        let c = curve d (slice_index left m) in
        let h : IsDrawn low high c = drawn (slice_index left m) _ (there m lm) in
        subst (λ (i : ℕ). IsCloseToAll (half_edges d kept)
        (slice_index_or (half_points d left) i no_point)) s
        (subst (IsCloseToAll (half_edges d kept)) (sym (middle_point d left m lm))
        (close_to (sum c) (sum_inside low high c h.from h.to))))
  ]
