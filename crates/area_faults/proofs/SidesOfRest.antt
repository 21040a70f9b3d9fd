-- The half-edges of the rest and the sides of its curves: each half-edge is on one side, and each
-- side has one half-edge.
use Rattle.std.proofs.Common.{◌≡◌, ◌≢◌, Bool, true, false, ℕ, zero, suc, ◌+◌, ◌*◌, ◌<◌, Some, List}
use Rattle.std.proofs.Common.{[], ◌∷◌, length, set, slice_index, arith, refl, inl, inr, sym, ◌∙◌}
use Rattle.std.proofs.Common.{subst, ap}
use Rattle.std.proofs.lemmas.Bool.{cases_lt}
use Rattle.std.proofs.lemmas.List.{get_or-map}
use Rattle.std.specs.Prelude.{if◌then◌else◌, not, slice_get, slice_set}
use Rattle.area_search.specs.Settled.Sides.{half_over}
use Rattle.area_search.proofs.Small.{less_or}
use Rattle.fault_lists.specs.FaceLists.{side_number}
use Rattle.fault_lists.specs.Rings.{end_of, end_on, start_of, start_on}
use Rattle.fault_lists.specs.declared.kinds.SideAt.{SideAt}
use Rattle.fault_lists.proofs.LeastSides.{one_side}
use Rattle.half_edges.specs.HalfEdges.{HalfEdges, next_of}
use Rattle.meetings.specs.StraightEdges.{IsRising}
use Rattle.plane.specs.Faces.Directions.{origin}
use Rattle.plane.specs.Faces.Halves.{Half, edge_of as half_edge_of, number, over, twin, under}
use Rattle.plane.specs.Forms.Vectors.{Before}
use Rattle.plane.specs.Rule.Doubled.{twice, twice_curve}
use Rattle.plane.specs.Rule.Plans.{Plan, curve}
use Rattle.plane.specs.declared.kinds.Curve.{Curve}
use Rattle.plane.specs.declared.kinds.Edge.{Edge}
use Rattle.plane.specs.declared.kinds.Point.{Point}
use Rattle.plane.proofs.Turning.FanNumbers.{number_one}
use Rattle.straight_predicates.specs.EdgeLists.{HasEnds, edge_of, no_edge}
use Rattle.tubes.specs.DrawnEdges.{straight_edge}
use Rattle.tubes.proofs.EdgeLemmas.{edge_ends}
use Rattle.area_faults.specs.NextSides.{AreFollowedTo, IsFollowed, IsHalfOn}
use Rattle.area_faults.specs.RestFaces.{half_edges}
use Rattle.area_faults.proofs.HalfUnits.{before_once, before_twice, twice_once}

-- ---- entries that are written
entry_kept : (xs : List ℕ) (i j v : ℕ) → j ≢ i → slice_get (set xs i v) j ≡ slice_get xs j
entry_kept [] i j v n = refl
entry_kept (x ∷ xs) zero zero v n = absurd (n refl)
entry_kept (x ∷ xs) zero (suc j) v n = refl
entry_kept (x ∷ xs) (suc i) zero v n = refl
entry_kept (x ∷ xs) (suc i) (suc j) v n = entry_kept xs i j v (λ e. n (ap suc e))

entry_written : (xs : List ℕ) (i v : ℕ) → i < length xs → slice_get (set xs i v) i ≡ Some v
entry_written [] i v l = absurd (omega (arith, l))
entry_written (x ∷ xs) zero v l = refl
entry_written (x ∷ xs) (suc i) v l = entry_written xs i v (omega (arith, l))

-- ---- numbers that rise
pub rise_once : (ns : List ℕ) → IsRising ns → (m n : ℕ) → m < length ns → n < length ns
    → slice_index ns m ≡ slice_index ns n → m ≡ n
rise_once ns rising m n k l q = elim (cases_lt m n) [
  | inl b ↦ absurd (let s = rising m n b l in omega (arith, s, q))
  | inr b ↦ elim (cases_lt n m) [
    | inl c ↦ absurd (let s = rising n m c k in omega (arith, s, q))
    | inr c ↦ omega (arith, b, c)
  ]
]

-- ---- sides
pub side_is : (s t : SideAt) → s.curve ≡ t.curve → s.left ≡ t.left → s ≡ t
side_is s t e f = λ i. record { curve = e i; left = f i }

pub number_there : (s : SideAt) (n : ℕ) → s.curve < n → side_number s < 2 * n
number_there s n l = by s.left
  where
    by : (b : Bool) → (2 * s.curve + (if b then 0 else 1)) < 2 * n
    by true = omega (arith, l)
    by false = omega (arith, l)

one_way : (a b : Bool) (c : Curve) → (c.from ≡ c.to → ⊥) → start_on a c ≡ start_on b c → a ≡ b
one_way true true c n e = refl
one_way false false c n e = refl
one_way true false c n e = absurd (n e)
one_way false true c n e = absurd (n (sym e))

no_way : (a : Bool) (c : Curve) → (c.from ≡ c.to → ⊥) → end_on a c ≡ start_on a c → ⊥
no_way true c n e = n (sym e)
no_way false c n e = n e

-- from the ends of an edge in half units
pub forward : (e : Edge) (p q : Point) → Before e.low e.high → e.low ≡ twice p → e.high ≡ twice q
    → Before p q
forward e p q b low high =
    before_twice p q
    (subst (λ (v : Point). Before (twice p) v) high
    (subst (λ (v : Point). Before v e.high) low b))

module _ (d : Plan) (kept : List ℕ) (known : (m : ℕ) → m < length kept
    → slice_index kept m < length d.curves)
    (flat : (i : ℕ) → i < length d.curves → (curve d i).from ≡ (curve d i).to → ⊥) where
  abbrev E : ℕ → Edge
  E = edge_of (half_edges d kept)

  pub ends_of : (m : ℕ) → m < length kept → Before (E m).low (E m).high
      × HasEnds (E m) (twice (curve d (slice_index kept m)).from)
      (twice (curve d (slice_index kept m)).to)
  ends_of m l =
      let c = curve d (slice_index kept m) in
      subst (λ (e : Edge). Before e.low e.high × HasEnds e (twice c.from) (twice c.to))
      (sym (get_or-map (λ (i : ℕ). straight_edge (twice_curve (curve d i))) kept m 0 no_edge l))
      (edge_ends (twice c.from) (twice c.to)
      (λ e. flat (slice_index kept m) (known m l) (twice_once c.from c.to e)))

  -- ---- the side of a half-edge
  -- the half of the edge that is on the left side, or on the right one
  half_made : (c : Curve) (m : ℕ) (left : Bool) (h : ℕ) → Before (E m).low (E m).high
      → HasEnds (E m) (twice c.from) (twice c.to)
      → (Before c.from c.to → h ≡ half_over left m)
      → ((Before c.from c.to → ⊥) → h ≡ half_over (not left) m)
      → (x : Half) × (number x ≡ h) × (half_edge_of x ≡ m)
      × (origin E x ≡ twice (start_on left c)) × (origin E (twin x) ≡ twice (end_on left c))
  half_made c m true h b (inl (low, high)) forth back =
      let e = forth (forward (E m) c.from c.to b low high) in
      (over m, omega (arith, e), refl, low, high)
  half_made c m false h b (inl (low, high)) forth back =
      let e = forth (forward (E m) c.from c.to b low high) in
      (under m, omega (arith, e), refl, high, low)
  half_made c m true h b (inr (low, high)) forth back =
      let e = back (before_once c.to c.from (forward (E m) c.to c.from b low high)) in
      (under m, omega (arith, e), refl, high, low)
  half_made c m false h b (inr (low, high)) forth back =
      let e = back (before_once c.to c.from (forward (E m) c.to c.from b low high)) in
      (over m, omega (arith, e), refl, low, high)

  pub on_side : (left : Bool) (m h : ℕ) → m < length kept
      → (Before (curve d (slice_index kept m)).from (curve d (slice_index kept m)).to
      → h ≡ half_over left m)
      → ((Before (curve d (slice_index kept m)).from (curve d (slice_index kept m)).to → ⊥)
      → h ≡ half_over (not left) m)
      → IsHalfOn d kept (record { curve = slice_index kept m; left = left }) h
  on_side left m h l forth back =
      let (sorted, ends) = ends_of m l in
      let (x, is, of_edge, from, to) = half_made (curve d (slice_index kept m)) m left h sorted ends
      forth back in
      record {
        half = x;
        is = is;
        there = subst (λ (n : ℕ). n < length kept) (sym of_edge) l;
        curve_is = ap (slice_index kept) of_edge;
        starts = from;
        ends = to;
      }

  pub known_side : (s : SideAt) (h : ℕ) → IsHalfOn d kept s h → s.curve < length d.curves
  known_side s h a =
      subst (λ (i : ℕ). i < length d.curves) a.curve_is (known (half_edge_of a.half) a.there)

  pub one_side_of : (s t : SideAt) (h : ℕ) → IsHalfOn d kept s h → IsHalfOn d kept t h → s ≡ t
  one_side_of s t h a b =
      let x : a.half ≡ b.half = number_one a.half b.half (a.is ∙ sym b.is) in
      let e : s.curve ≡ t.curve = sym a.curve_is
      ∙ ap (λ (y : Half). slice_index kept (half_edge_of y)) x ∙ b.curve_is in
      side_is s t e
      (one_way s.left t.left (curve d s.curve) (flat s.curve (known_side s h a))
      (twice_once (start_of d s) (start_on t.left (curve d s.curve))
      (sym a.starts ∙ ap (origin E) x ∙ b.starts
      ∙ ap (λ (i : ℕ). twice (start_on t.left (curve d i))) (sym e))))

  -- ---- the half-edge of a side
  module _ (rising : IsRising kept) where
    pub one_half_of : (s : SideAt) (h g : ℕ) → IsHalfOn d kept s h → IsHalfOn d kept s g → h ≡ g
    one_half_of s h g a b =
        sym a.is
        ∙ ap number (same a.half b.half
        (rise_once kept rising (half_edge_of a.half) (half_edge_of b.half) a.there b.there
        (a.curve_is ∙ sym b.curve_is)) a.ends b.starts)
        ∙ b.is
      where
        turned : twice (end_of d s) ≡ twice (start_of d s) → ⊥
        turned e = no_way s.left (curve d s.curve) (flat s.curve (known_side s h a))
            (twice_once (end_of d s) (start_of d s) e)

        same : (x y : Half) → half_edge_of x ≡ half_edge_of y
            → origin E (twin x) ≡ twice (end_of d s) → origin E y ≡ twice (start_of d s) → x ≡ y
        same (under m) (under n) e p q = ap under e
        same (over m) (over n) e p q = ap over e
        same (under m) (over n) e p q =
            absurd (turned (sym p ∙ ap (λ (k : ℕ). (E k).low) e ∙ q))
        same (over m) (under n) e p q =
            absurd (turned (sym p ∙ ap (λ (k : ℕ). (E k).high) e ∙ q))

    -- ---- one half-edge more
    pub none_followed : (mesh : HalfEdges) (next : List ℕ) → AreFollowedTo d kept mesh 0 next
    none_followed mesh next h l = absurd (omega (arith, l))

    pub one_followed : (mesh : HalfEdges) (k : ℕ) (s t : SideAt) (old new : List ℕ)
        → IsHalfOn d kept s k → IsHalfOn d kept t (next_of mesh k)
        → side_number s < length old → new ≡ slice_set old (side_number s) (side_number t)
        → AreFollowedTo d kept mesh k old → AreFollowedTo d kept mesh (k + 1) new
    one_followed mesh k s t old new on after within written are h l =
        less_or h k (IsFollowed d kept mesh new h) l earlier here
      where
        here : h ≡ k → IsFollowed d kept mesh new h
        here q = subst (IsFollowed d kept mesh new) (sym q) (record {
          side = s;
          after = t;
          on = on;
          next_on = after;
          said = ap (λ (xs : List ℕ). slice_get xs (side_number s)) written
              ∙ entry_written old (side_number s) (side_number t) within;
        })

        apart : (w : SideAt) → IsHalfOn d kept w h → h < k → side_number w ≢ side_number s
        apart w a less e =
            let same : h ≡ k = one_half_of s h k
            (subst (λ (v : SideAt). IsHalfOn d kept v h) (one_side w s e) a) on in
            omega (arith, less, same)

        earlier : h < k → IsFollowed d kept mesh new h
        earlier less =
            let w = are h less in
            record {
              side = w.side;
              after = w.after;
              on = w.on;
              next_on = w.next_on;
              said = ap (λ (xs : List ℕ). slice_get xs (side_number w.side)) written
                  ∙ entry_kept old (side_number s) (side_number w.side) (side_number t)
                  (apart w.side w.on less)
                  ∙ w.said;
            }
