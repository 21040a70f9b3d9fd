-- How two edges meet is decided, also where an edge is one point.
use Rattle.std.proofs.Common.{◌≡◌, ◌⊎◌, inl, inr, Bool, true, false, cond, pos, ◌≤ℤ◌, ◌<ℤ◌, refl}
use Rattle.std.proofs.Common.{arith, sym, ◌∙◌, subst}
use Rattle.std.proofs.lemmas.Int.{ints, by_lt_z}
use Rattle.plane.specs.Forms.Meets.{Bad, Disjoint, Fine, IsEnd, OnStraight, Touch}
use Rattle.plane.specs.Forms.Vectors.{Before, Place, Same, Vector, point}
use Rattle.plane.specs.Rule.Straights.{IsOnStraight, dot, turn}
use Rattle.plane.specs.declared.kinds.Edge.{Edge}
use Rattle.plane.specs.declared.kinds.Point.{Point}
use Rattle.plane.proofs.Covers.SamePlace.{first_on, on_straight_same, same_refl, same_sym}
use Rattle.plane.proofs.Covers.SamePlace.{segment_same}
use Rattle.plane.proofs.Linear.EdgePlaces.{place_point}
use Rattle.plane.proofs.Windings.Enters.{Decided, decide_point, decide_z}
use Rattle.tubes.specs.DrawnEdges.{comes_first, edge_from}
use Rattle.tubes.proofs.EdgeLemmas.{edge_ends}

pub bad_back : (a b : Edge) → Bad a b → Bad b a
bad_back a b h = record {
  at = h.at;
  place = h.place;
  of_first = h.of_second;
  of_second = h.of_first;
  no_end = λ e. h.no_end (record {
    at = e.at;
    of_first = e.of_second;
    of_second = e.of_first;
    is = e.is;
  });
}

touch_back : (a b : Edge) → Touch a b → Touch b a
touch_back a b h = record {
  at = h.at;
  of_first = h.of_second;
  of_second = h.of_first;
  only = λ z Z f g. h.only z Z g f;
}

decide_on : (e : Edge) (p : Point) → Decided (OnStraight e (point p))
decide_on e p = elim (decide_z (turn (point e.low) (point e.high) (point p)) (pos 0)) [
  | inr n ↦ inr (λ h. n h.line)
  | inl l ↦ by_lt_z (pos 0) (dot (point e.low) (point e.high) (point p))
      (λ (g : pos 0 <ℤ dot (point e.low) (point e.high) (point p)). inr (λ h. let b = h.between in
      omega (arith, ints, g, b)))
      (λ (g : dot (point e.low) (point e.high) (point p) ≤ℤ pos 0). inl (record {
        line = l;
        between = g;
      }))
]

decide_end : (e : Edge) (p : Point) → Decided (IsEnd e p)
decide_end e p = elim (decide_point e.low p) [
  | inl a ↦ inl (inl a)
  | inr na ↦ elim (decide_point e.high p) [
    | inl b ↦ inl (inr b)
    | inr nb ↦ inr (λ i. elim i [ inl a ↦ na a | inr b ↦ nb b ])
  ]
]

-- ---- an edge of one point
module _ (a b : Edge) (one : a.low ≡ a.high) where
  at_point : (z : Vector) → Place z → OnStraight a z → Same z (point a.low)
  at_point z Z on =
      segment_same (point a.low) (point a.low) z (place_point a.low) (place_point a.low) Z
      (same_refl (point a.low)) (subst (λ p. IsOnStraight (point a.low) (point p) z) (sym one) on)

  on_itself : OnStraight a (point a.low)
  on_itself = first_on (point a.low) (point a.high) (place_point a.low) (place_point a.high)

  meet_point : (Disjoint a b ⊎ Touch a b) ⊎ Bad a b
  meet_point = elim (decide_on b a.low) [
    | inr n ↦ inl
        (inl (λ z Z f g. n
        (on_straight_same (point b.low) (point b.high) z (point a.low) (place_point b.low)
        (place_point b.high) Z (place_point a.low) (same_sym z (point a.low) (at_point z Z f)) g)))
    | inl on ↦ elim (decide_end b a.low) [
      | inl e ↦ inl
          (inr (record {
            at = a.low;
            of_first = inl refl;
            of_second = e;
            only = λ z Z f g. at_point z Z f;
          }))
      | inr n ↦ inr (record {
        at = point a.low;
        place = place_point a.low;
        of_first = on_itself;
        of_second = on;
        no_end = λ c. n (subst (IsEnd b) (end_is c.at c.of_first) c.of_second);
      })
    ]
  ]
    where
      end_is : (p : Point) → IsEnd a p → p ≡ a.low
      end_is p (inl e) = sym e
      end_is p (inr e) = sym e ∙ sym one

-- ---- any two
rises_or_not : (p q : Point)
    → Before (edge_from p q).low (edge_from p q).high ⊎ ((edge_from p q).low ≡ (edge_from p q).high)
rises_or_not p q =
    elim (decide_point p q) [
      | inr n ↦ inl (edge_ends p q n).0
      | inl e ↦ inr (by_test (comes_first p q) e)
    ]
  where
    by_test : (b : Bool) → p ≡ q
        → Edge.low (cond b (record { low = p; high = q }) (record { low = q; high = p }))
        ≡ Edge.high (cond b (record { low = p; high = q }) (record { low = q; high = p }))
    by_test true e = e
    by_test false e = sym e

other_way : (a b : Edge) → (Disjoint a b ⊎ Touch a b) ⊎ Bad a b
    → (Disjoint b a ⊎ Touch b a) ⊎ Bad b a
other_way a b (inl (inl h)) = inl (inl (λ z Z f g. h z Z g f))
other_way a b (inl (inr h)) = inl (inr (touch_back a b h))
other_way a b (inr h) = inr (bad_back a b h)

module _ (decided : (a b : Edge) → Before a.low a.high → Before b.low b.high → Fine a b ⊎ Bad a b)
    (fine : (a b : Edge) → Before a.low a.high → Before b.low b.high → Fine a b
    → Disjoint a b ⊎ Touch a b) where
  by_rise : (a b : Edge) → Before a.low a.high ⊎ (a.low ≡ a.high)
      → Before b.low b.high ⊎ (b.low ≡ b.high) → (Disjoint a b ⊎ Touch a b) ⊎ Bad a b
  by_rise a b (inr e) g = meet_point a b e
  by_rise a b (inl f) (inr e) = other_way b a (meet_point b a e)
  by_rise a b (inl f) (inl g) =
      elim (decided a b f g) [ inl h ↦ inl (fine a b f g h) | inr h ↦ inr h ]

  pub any_meet : (p q r s : Point)
      → (Disjoint (edge_from p q) (edge_from r s) ⊎ Touch (edge_from p q) (edge_from r s))
      ⊎ Bad (edge_from p q) (edge_from r s)
  any_meet p q r s = by_rise (edge_from p q) (edge_from r s) (rises_or_not p q) (rises_or_not r s)
