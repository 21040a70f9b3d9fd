-- One point more has its place, and the order of the points behind it.
use Rattle.std.proofs.Common.{◌≡◌, ℕ, zero, suc, ◌+◌, ◌<◌, ◌≤◌, ◌⊎◌, inl, inr, Bool, true, false}
use Rattle.std.proofs.Common.{not, ◌&&◌, Option, None, Some, ◌<ℤ◌, ◌≤ℤ◌, List, length, get_or, refl}
use Rattle.std.proofs.Common.{arith, ap, sym, ◌∙◌, subst, add-one, set, get_or-set_same}
use Rattle.std.proofs.Common.{get_or-set_other}
use Rattle.std.proofs.lemmas.Int.{ints, by_lt_z}
use Rattle.std.specs.Option.{option_eq}
use Rattle.std.specs.Ordering.{int_eq}
use Rattle.std.specs.Prelude.{IfSome}
use Rattle.plane.specs.declared.kinds.Point.{Point}
use Rattle.plane.specs.Forms.Vectors.{Before}
use Rattle.plane.specs.declared.kinds.Edge.{Edge}
use Rattle.plane.specs.Runs.Moves.{Move, no_move}
use Rattle.straight_predicates.specs.EdgeLists.{no_point}
use Rattle.straight_predicates.proofs.Orders.{by_lt}
use Rattle.point_location.proofs.PlaneLaws.{decides_equal}
use Rattle.point_location.specs.declared.numbered.Numbered.{Numbered}
use Rattle.point_location.specs.declared.places.Place.{Place}
use Rattle.point_location.specs.Numbered.{IsInOrder, nothing}
use Rattle.point_location.specs.Places.{ArePlaces, IsPlaceOf, no_place}
use Rattle.point_location.specs.Replaying.{IsApplied, IsMoment}

compare : (i k : ℕ) → i < k + 1 → (i < k) ⊎ (i ≡ k)
compare zero zero l = inr refl
compare zero (suc k) l = inl (omega arith)
compare (suc i) zero l = absurd (omega (arith, l))
compare (suc i) (suc k) l =
    elim (compare i k (omega (arith, l))) [
      | inl h ↦ inl (omega (arith, h))
      | inr q ↦ inr (ap (λ (n : ℕ). suc n) q)
    ]

same_or : (i k : ℕ) → (i ≡ k) ⊎ (i ≡ k → ⊥)
same_or zero zero = inl refl
same_or zero (suc k) = inr (λ (e : zero ≡ suc k). omega (arith, e))
same_or (suc i) zero = inr (λ (e : suc i ≡ zero). omega (arith, e))
same_or (suc i) (suc k) =
    elim (same_or i k) [
      | inl e ↦ inl (ap (λ (n : ℕ). suc n) e)
      | inr f ↦ inr (λ (e : suc i ≡ suc k). f (omega (arith, e)))
    ]

written : (places : List Place) (n : ℕ) (a : Place) → n < length places
    → get_or (set places n a) n no_place ≡ a
written places n a l = rw get_or-set_same refl

kept : (places : List Place) (n i : ℕ) (a : Place) → (i ≡ n → ⊥)
    → get_or (set places n a) i no_place ≡ get_or places i no_place
kept places n i a f = rw get_or-set_other refl

module _ (P : Point → Place → Type 0) (points : List Point) (order : List Numbered)
    (o : IsInOrder points order) (places : List Place) (size : length places ≡ length points)
    (k : ℕ) (l : k < length order) (a : Place) (here : P (get_or order k nothing).at a)
    (each : (i : ℕ) → i < k
    → P (get_or order i nothing).at
    (get_or places (get_or order i nothing).number no_place)) where
  pub placed_next : (i : ℕ) → i < k + 1
      → P (get_or order i nothing).at
      (get_or (set places (get_or order k nothing).number a)
      (get_or order i nothing).number no_place)
  placed_next i h =
      let n = (get_or order k nothing).number in
      let w : n < length places = let b = o.known k l in omega (arith, b, size) in
      elim (same_or (get_or order i nothing).number n) [
        | inl e ↦
            let m : i < length order = omega (arith, h, l) in
            let at : (get_or order i nothing).at ≡ (get_or order k nothing).at = o.is i m
            ∙ ap (λ (j : ℕ). get_or points j no_point) e ∙ sym (o.is k l) in
            subst (λ q. P q (get_or (set places n a) (get_or order i nothing).number no_place))
            (sym at)
            (subst (λ (j : ℕ). P (get_or order k nothing).at (get_or (set places n a) j no_place))
            (sym e)
            (subst (λ b. P (get_or order k nothing).at b) (sym (written places n a w)) here))
        | inr f ↦ subst (λ b. P (get_or order i nothing).at b)
            (sym (kept places n (get_or order i nothing).number a f)) (elim (compare i k h) [
              | inl b ↦ each i b
              | inr q ↦ absurd (f (ap (λ (j : ℕ). (get_or order j nothing).number) q))
            ])
      ]

-- what comes before a point comes before the next one
pub before_next : (points : List Point) (order : List Numbered) → IsInOrder points order → (k : ℕ)
    → k + 1 < length order → (p : Point) → Before p (get_or order k nothing).at
    → Before p (get_or order (k + 1) nothing).at
before_next points order o k l p b =
    subst (λ (n : ℕ). Before p (get_or order n nothing).at) (sym (add-one k))
    (weaker p (get_or order k nothing).at (get_or order (suc k) nothing).at b
    (o.rising k (omega (arith, l))))
  where
    x_less : (p q r : Point) → Before p q → q.x <ℤ r.x → p.x <ℤ r.x
    x_less p q r (inl a) k = omega (arith, ints, a, k)
    x_less p q r (inr a) k = let e = a.0 in omega (arith, ints, e, k)

    y_less : (p q r : Point) → Before p q → r.x ≡ q.x → q.y ≤ℤ r.y → Before p r
    y_less p q r (inl a) e h = inl (omega (arith, ints, a, e))
    y_less p q r (inr a) e h = let b = a.1 in inr (a.0 ∙ sym e, omega (arith, ints, b, h))

    weaker : (p q r : Point) → Before p q → (Before r q → ⊥) → Before p r
    weaker p q r b f =
        by_lt_z r.x q.x
        (λ (l : r.x <ℤ q.x). absurd (f (inl l)))
        (λ (l : q.x ≤ℤ r.x). by_lt_z q.x r.x
        (λ (k : q.x <ℤ r.x). inl (x_less p q r b k))
        (λ (k : r.x ≤ℤ q.x).
        let e : r.x ≡ q.x = omega (arith, ints, l, k) in
        by_lt_z r.y q.y
        (λ (h : r.y <ℤ q.y). absurd (f (inr (e, h))))
        (λ (h : q.y ≤ℤ r.y). y_less p q r b e h)))

-- all that is applied comes before the point
pub moment_at : (moves : List Move) (applied k : ℕ) (now : List ℕ) (at : Point)
    → ((j : ℕ) → j < applied → Before (get_or moves j no_move).at at)
    → IsApplied moves k now
    → ((j : ℕ) → applied ≤ j → j < k → Before (get_or moves j no_move).at at)
    → (k < length moves → Before (get_or moves k no_move).at at → ⊥)
    → IsMoment moves k now at
moment_at moves applied k now at early a f g = record {
  known = a.known;
  values = a.values;
  passed = λ j l. by_lt j applied (λ (h : j < applied). early j h) (λ (h : applied ≤ j). f j h l);
  coming = g;
}

-- ---- equal points have one place
abbrev pub are_equal : Point → Point → Bool
are_equal p q = int_eq p.x q.x && int_eq p.y q.y

-- where the test finds no difference, the point is the last one again
again : (last : Option Point) (at : Point) (r : Bool) → r ≡ not (option_eq are_equal last (Some at))
    → r ≡ false → last ≡ Some at
again None at r e f = cc
again (Some p) at r e f =
    ap (λ (q : Point). Some q)
    ((decides_equal p at (are_equal p at) refl).0 (by (are_equal p at) (sym e ∙ f)))
  where
    by : (b : Bool) → not b ≡ false → b ≡ true
    by true h = refl
    by false h = cc

-- All that is applied comes before the point, and the place is its own and that of the last point.
pub record IsReady (edges : List Edge) (moves : List Move) (at : Point) (applied : ℕ)
    (live : List ℕ) (last : Option Point) (place : Place) : Type 0 where
  pub done : IsApplied moves applied live
  pub passed : (j : ℕ) → j < applied → Before (get_or moves j no_move).at at
  pub here : IsPlaceOf edges moves at place
  pub last_is : IfSome last (λ p. IsPlaceOf edges moves p place)

module _ (edges : List Edge) (moves : List Move) (at : Point) (applied : ℕ) (live : List ℕ)
    (place : Place) where
  pub ready_anew : IsMoment moves applied live at → IsPlaceOf edges moves at place
      → IsReady edges moves at applied live (Some at) place
  ready_anew m h = record {
    done = record { known = m.known; values = m.values };
    passed = m.passed;
    here = h;
    last_is = h;
  }

  pub ready_again : (last : Option Point) (r : Bool) → IsApplied moves applied live
      → ((j : ℕ) → j < applied → Before (get_or moves j no_move).at at)
      → IfSome last (λ p. IsPlaceOf edges moves p place)
      → r ≡ not (option_eq are_equal last (Some at)) → r ≡ false
      → IsReady edges moves at applied live last place
  ready_again last r a f h e n =
      record {
        done = a;
        passed = f;
        here = subst (λ (q : Option Point). IfSome q (λ p. IsPlaceOf edges moves p place))
            (again last at r e n) h;
        last_is = h;
      }

pub placed_all : (edges : List Edge) (moves : List Move) (points : List Point)
    (order : List Numbered) (places : List Place) (k : ℕ)
    → IsInOrder points order → length order ≤ k → length places ≡ length points
    → ((i : ℕ) → i < k
    → IsPlaceOf edges moves (get_or order i nothing).at
    (get_or places (get_or order i nothing).number no_place))
    → ArePlaces edges moves points places
placed_all edges moves points order places k o l size each = record {
  size = size;
  each = λ j h.
      let (i, b, e) = o.all j h in
      let at = o.is i b ∙ ap (λ (n : ℕ). get_or points n no_point) e in
      subst (λ q. IsPlaceOf edges moves q (get_or places j no_place)) at
      (subst (λ (n : ℕ). IsPlaceOf edges moves (get_or order i nothing).at
      (get_or places n no_place)) e (each i (omega (arith, b, l))));
}
