-- Points placed one by one, and event by event.
use Rattle.std.proofs.Common.{◌≡◌, ◌↔◌, ℕ, suc, ◌+◌, ◌<◌, ◌≤◌, ◌⊎◌, inl, inr, Bool, Option, Some}
use Rattle.std.proofs.Common.{None, List, length, min, arith, ap, sym, ◌∙◌, subst, add-one}
use Rattle.plane.specs.declared.kinds.Point.{Point}
use Rattle.plane.specs.Faces.Halves.{Half}
use Rattle.plane.specs.Forms.Vectors.{Before}
use Rattle.certificate_checker.proofs.Entries.{by_lt}
use Rattle.certificate_checker.specs.declared.state.Spot.{Spot}
use Rattle.certificate_checker.specs.InCells.{IsInStrip, IsNextEvent, IsSpotOf}
use Rattle.certificate_checker.specs.Marked.{IsMarked}
use Rattle.certificate_checker.specs.Placed.{ArePlacedTo, IsAfter, IsJudgedPoint, IsLater, IsWorse}
use Rattle.certificate_checker.specs.Placed.{OfPoint, spot_at}
use Rattle.certificate_checker.specs.Rules.{IsPointPlaced}
use Rattle.certificate_checker.specs.Subjects.{Subject, event}
use Rattle.certificate_checker.proofs.Placing.{after_all}

min_left : (a b : ℕ) → min a b ≤ a
min_left a b = omega arith

min_right : (a b : ℕ) → min a b ≤ b
min_right a b = omega arith

min_is : (P : ℕ → Type 0) (a b : ℕ) → P a → P b → P (min a b)
min_is P a b x y =
    by_lt a b (λ (l : a < b). subst P (one a b l) x) (λ (l : b ≤ a). subst P (other a b l) y)
  where
    one : (a b : ℕ) → a < b → a ≡ min a b
    one a b l = omega (arith, l)

    other : (a b : ℕ) → b ≤ a → b ≡ min a b
    other a b l = omega (arith, l)

last : (i n : ℕ) → i < suc n → n ≤ i → i ≡ n
last i n l m = omega (arith, l, m)

module _ (s : Subject) (k n bad : ℕ) (spots : List Spot) (marks : List Bool)
    (p : ArePlacedTo s k n bad spots marks) where
  -- ---- the next spot
  pub spot_in_strip : (upto : Option Point) → n < length spots → IsNextEvent s k upto
      → (IsAfter upto (spot_at spots n).at → ⊥) → IsSpotOf s k (spot_at spots n)
  spot_in_strip upto l next after = record {
    point = p.sorted.known n l;
    strip = subst (IsInStrip s k) (p.sorted.known n l).at (record {
      passed = λ j m. p.later n j (omega arith) l m;
      next = by_next upto next after;
    });
  }
    where
      by_next : (upto : Option Point) → IsNextEvent s k upto
          → (IsAfter upto (spot_at spots n).at → ⊥) → k < length s.table
          → Before (event s k).at (spot_at spots n).at → ⊥
      by_next None e f m b = omega (arith, e, m)
      by_next (Some v) e f m b = f (subst (λ x. Before x (spot_at spots n).at) (sym e.1) b)

  pub one_placed : (worse : ℕ) (new : List Bool) → n < length spots
      → IsWorse s (spot_at spots n).number bad worse → length new ≡ length marks
      → ((h : Half) → IsMarked new h ↔ (IsMarked marks h ⊎ OfPoint s (spot_at spots n).number h))
      → ArePlacedTo s k (suc n) worse spots new
  one_placed worse new l w z m = record {
    sorted = p.sorted;
    within = l;
    later = λ i j a b c. p.later i j (omega (arith, a)) b c;
    judged = λ i a. by_lt i n
        (λ (b : i < n). elim (p.judged i b) [
          | inl x ↦ inl x
          | inr x ↦ inr (x.0, let e = less in let y = x.1 in omega (arith, e, y))
        ])
        (λ (b : n ≤ i). subst (λ (i : ℕ). IsJudgedPoint s worse (spot_at spots i).number)
        (sym (last i n a b)) here);
    most = (let e = less in let m = p.most in omega (arith, e, m));
    unplaced = none;
    size = z ∙ p.size;
    each = λ h. (
      (λ x. elim ((m h).0 x) [
        | inl y ↦ (let (i, a, q) = (p.each h).0 y in (i, omega (arith, a), q))
        | inr q ↦ (n, omega arith, q)
      ]),
      (λ q. (m h).1 (by_lt q.0 n (λ (a : q.0 < n). inl ((p.each h).1 (q.0, a, q.2)))
          (λ (a : n ≤ q.0). inr
          (subst (λ (i : ℕ). OfPoint s (spot_at spots i).number h) (last q.0 n q.1 a) q.2)))),
    );
  }
    where
      less : worse ≤ bad
      less = elim w [
        | inl x ↦ (let e = x.1 in omega (arith, e))
        | inr x ↦ (let e = x.1 in let f = min_left bad (spot_at spots n).number in
            omega (arith, e, f))
      ]

      here : IsJudgedPoint s worse (spot_at spots n).number
      here = elim w [
        | inl x ↦ inl x.0
        | inr x ↦ inr (
          x.0,
          let e = x.1 in
              let f = min_right bad (spot_at spots n).number in omega (arith, e, f),
        )
      ]

      none : worse < length s.points → IsPointPlaced s worse → ⊥
      none a = elim w [
        | inl x ↦ subst (λ (i : ℕ). IsPointPlaced s i → ⊥) (sym x.1)
            (p.unplaced (let e = x.1 in omega (arith, a, e)))
        | inr x ↦ subst (λ (i : ℕ). IsPointPlaced s i → ⊥) (sym x.1)
            (by_lt bad (spot_at spots n).number
            (λ (b : bad < (spot_at spots n).number). subst (λ (i : ℕ). IsPointPlaced s i → ⊥)
            (one bad (spot_at spots n).number b)
            (p.unplaced (let e = x.1 in let f = one bad (spot_at spots n).number b in
            omega (arith, a, e, f))))
            (λ (b : (spot_at spots n).number ≤ bad). subst (λ (i : ℕ). IsPointPlaced s i → ⊥)
            (other bad (spot_at spots n).number b) x.0))
      ]
        where
          one : (a b : ℕ) → a < b → a ≡ min a b
          one a b l = omega (arith, l)

          other : (a b : ℕ) → b ≤ a → b ≡ min a b
          other a b l = omega (arith, l)

  -- ---- the spots that are left
  pub left_after : (upto : Option Point) → n < length spots → IsNextEvent s k upto
      → IsAfter upto (spot_at spots n).at → IsLater s k n spots
  left_after None l next after = absurd after
  left_after (Some v) l next after = λ i a b. (
    next.0,
    after_all (event s k).at (spot_at spots n).at (spot_at spots i).at
        (subst (λ x. Before x (spot_at spots n).at) next.1 after) (p.sorted.order n i a b),
  )

  pub none_left : length spots ≤ n → IsLater s k n spots
  none_left l = λ i a b. absurd (omega (arith, l, a, b))

  -- ---- the next event
  pub next_placed : IsLater s k n spots → ArePlacedTo s (suc k) n bad spots marks
  next_placed f = record {
    sorted = p.sorted;
    within = p.within;
    later = λ i j a b c. by_lt j k (λ (l : j < k). p.later i j a b l)
        (λ (l : k ≤ j). subst (λ (j : ℕ). Before (event s j).at (spot_at spots i).at)
        (sym (last j k c l)) (f i a b).1);
    judged = p.judged;
    most = p.most;
    unplaced = p.unplaced;
    size = p.size;
    each = p.each;
  }

  -- ---- the end
  module _ (end : k ≡ length s.table) (f : IsLater s k n spots) where
    all_passed : length spots ≤ n
    all_passed =
        by_lt n (length spots) (λ (l : n < length spots). absurd (let q = (f n (omega arith) l).0 in
        omega (arith, q, end))) (λ (l : length spots ≤ n). l)

    judged_all : (j : ℕ) → j < length s.points → IsJudgedPoint s bad j
    judged_all j l =
        let (i, a, e) = p.sorted.all j l in
        subst (IsJudgedPoint s bad) e (p.judged i (let q = all_passed in omega (arith, a, q)))

    pub placed_below : (j : ℕ) → j < length s.points → j < bad → IsPointPlaced s j
    placed_below j l m =
        elim (judged_all j l) [ inl x ↦ x | inr x ↦ absurd (let y = x.1 in omega (arith, m, y)) ]

    pub marks_at_end : (h : Half) → IsMarked marks h
        → (j : ℕ) × (j < length s.points) × OfPoint s j h
    marks_at_end h x =
        let (i, a, q) = (p.each h).0 x in (
          (spot_at spots i).number,
          (p.sorted.known i (let w = p.within in omega (arith, a, w))).known,
          q,
        )

    pub marked_at_end : (h : Half) (j : ℕ) → j < length s.points → OfPoint s j h → IsMarked marks h
    marked_at_end h j l q =
        let (i, a, e) = p.sorted.all j l in
        (p.each h).1 (
          i,
          (let w = all_passed in omega (arith, a, w)),
          subst (λ (j : ℕ). OfPoint s j h) (sym e) q,
        )

-- ---- from what a program looked up
module _ (s : Subject) (k n bad : ℕ) (spots : List Spot) (marks : List Bool)
    (p : ArePlacedTo s k n bad spots marks) (i : ℕ) (e : n ≡ i) (spot : Spot)
    (q : spot ≡ spot_at spots i) where
  same_spot : spot_at spots n ≡ spot
  same_spot = ap (spot_at spots) e ∙ sym q

  pub next_strip : (upto : Option Point) → i < length spots → IsNextEvent s k upto
      → (IsAfter upto spot.at → ⊥) → IsSpotOf s k spot
  next_strip upto l next after =
      subst (IsSpotOf s k) same_spot
      (spot_in_strip s k n bad spots marks p upto (omega (arith, l, e)) next
      (λ a. after (subst (λ (z : Spot). IsAfter upto z.at) same_spot a)))

  pub next_spot : (worse : ℕ) (new : List Bool) → i < length spots → IsWorse s spot.number bad worse
      → length new ≡ length marks
      → ((h : Half) → IsMarked new h ↔ (IsMarked marks h ⊎ OfPoint s spot.number h))
      → ArePlacedTo s k (i + 1) worse spots new
  next_spot worse new l w z m =
      subst (λ (j : ℕ). ArePlacedTo s k j worse spots new) (ap (λ (n : ℕ). suc n) e
      ∙ sym (add-one i))
      (one_placed s k n bad spots marks p worse new (omega (arith, l, e))
      (subst (λ (z : Spot). IsWorse s z.number bad worse) (sym same_spot) w) z
      (subst (λ (z : Spot). (h : Half) → IsMarked new h ↔ (IsMarked marks h ⊎ OfPoint s z.number h))
      (sym same_spot) m))

  pub next_left : (upto : Option Point) → i < length spots → IsNextEvent s k upto
      → IsAfter upto spot.at → IsLater s k n spots
  next_left upto l next after =
      left_after s k n bad spots marks p upto (omega (arith, l, e)) next
      (subst (λ (z : Spot). IsAfter upto z.at) (sym same_spot) after)
