-- Numbers by their marks, the boxes of points and of the curves of these numbers, and their marks,
-- as the lists grow.
use Rattle.std.proofs.Common.{◌≡◌, ◌↔◌, ℕ, ◌+◌, ◌<◌, ◌≤◌, Bool, true, false, IsTrue, List, [], ◌∷◌}
use Rattle.std.proofs.Common.{◌++◌, length, get_or, arith, refl, ap, sym, ◌∙◌, subst}
use Rattle.std.proofs.lemmas.List.{length-append, get_or_append_left}
use Rattle.std.proofs.Math.Seq.{get_or-append_seam}
use Rattle.std.proofs.lemmas.Int.{ints}
use Rattle.plane.specs.Forms.Boxes.{HoldsCurve, InBox}
use Rattle.plane.specs.Rule.Places.{point}
use Rattle.plane.specs.Rule.Plans.{Plan, curve, object}
use Rattle.plane.specs.declared.kinds.Placed.{Placed}
use Rattle.plane.specs.declared.kinds.Point.{Point}
use Rattle.near_pairs.specs.Boxes.{box_of, mark_of, no_reach}
use Rattle.near_pairs.specs.declared.reaches.Reach.{Reach}
use Rattle.area_search.specs.Unsettled.CurvePoints.{AreCurveBoxes, AreMarkedTo, ArePointBoxes}
use Rattle.area_search.specs.Unsettled.CurvePoints.{placed_at}
use Rattle.area_search.proofs.Small.{by_lt}

abbrev number_of : List ℕ → ℕ → ℕ
number_of numbers m = get_or numbers m 0

last : (i k : ℕ) → i < k + 1 → k ≤ i → i ≡ k
last i k l m = omega (arith, l, m)

-- ---- one more of a list
module _ {X : Type 0} (xs new : List X) (x d : X) (k : ℕ) (q : new ≡ xs ++ x ∷ [])
    (size : length xs ≡ k) where
  size_more : length new ≡ k + 1
  size_more = let s = ap length q ∙ length-append xs (x ∷ []) in omega (arith, s, size)

  front_of : (i : ℕ) → i < k → get_or new i d ≡ get_or xs i d
  front_of i l = ap (λ ys. get_or ys i d) q
      ∙ get_or_append_left xs (x ∷ []) d i (omega (arith, l, size))

  last_of : (i : ℕ) → i ≡ k → get_or new i d ≡ x
  last_of i e = ap (λ ys. get_or ys i d) q
      ∙ ap (λ (j : ℕ). get_or (xs ++ x ∷ []) j d) (e ∙ sym size) ∙ get_or-append_seam xs x [] d

-- ---- numbers with a mark
module _ (marks : List Bool) (mark : Bool) where
  abbrev HasMark : ℕ → Type 0
  HasMark i = mark_of marks i ≡ mark

  pub no_numbers : (numbers : List ℕ) → numbers ≡ [] → AreMarkedTo marks mark 0 numbers
  no_numbers numbers e =
      let n = ap length e in
      record {
        few = omega (arith, n);
        known = λ m l. absurd (omega (arith, l, n));
        mark_is = λ m l. absurd (omega (arith, l, n));
        rising = λ m n' l k. absurd (omega (arith, k, n));
        whole = λ i l. absurd (omega (arith, l));
      }

  module _ (k : ℕ) (numbers : List ℕ) (a : AreMarkedTo marks mark k numbers) where
    pub number_passed : (HasMark k → ⊥) → AreMarkedTo marks mark (k + 1) numbers
    number_passed n = record {
      few = (let f = a.few in omega (arith, f));
      known = λ m l. let h = a.known m l in omega (arith, h);
      mark_is = a.mark_is;
      rising = a.rising;
      whole = λ i l e. by_lt i k (λ (b : i < k). a.whole i b e)
          (λ (b : k ≤ i). absurd (n (subst HasMark (last i k l b) e)));
    }

    pub number_more : (new : List ℕ) → new ≡ numbers ++ k ∷ [] → HasMark k
        → AreMarkedTo marks mark (k + 1) new
    number_more new q h = record {
      few = (let f = a.few in omega (arith, f, size));
      known = λ m l. by m l (λ n. n < k + 1) (λ g. let b = a.known m g in
          omega (arith, b)) (omega arith);
      mark_is = λ m l. by m l HasMark (a.mark_is m) h;
      rising = λ m n l g. by_lt n (length numbers)
          (λ (b : n < length numbers). let x = front m (omega (arith, l, b)) in let y = front n b in
          let w = a.rising m n l b in omega (arith, x, y, w))
          (λ (b : length numbers ≤ n). let mm : m < length numbers = omega (arith, l, g, size) in
          let x = front m mm in let y = back n (omega (arith, b, g, size)) in
          let w = a.known m mm in omega (arith, x, y, w));
      whole = λ i l e. by_lt i k
          (λ (g : i < k). let (m, lm, em) = a.whole i g e in
          (m, omega (arith, lm, size), front m lm ∙ em))
          (λ (g : k ≤ i). (
            length numbers,
            omega (arith, size),
            back (length numbers) refl
                ∙ sym (last i k l g),
          ));
    }
      where
        size : length new ≡ length numbers + 1
        size = size_more numbers new k 0 (length numbers) q refl

        front : (m : ℕ) → m < length numbers → number_of new m ≡ number_of numbers m
        front m l = front_of numbers new k 0 (length numbers) q refl m l

        back : (m : ℕ) → m ≡ length numbers → number_of new m ≡ k
        back m e = last_of numbers new k 0 (length numbers) q refl m e

        by : (m : ℕ) → m < length new → (P : ℕ → Type 0)
            → (m < length numbers → P (number_of numbers m)) → P k → P (number_of new m)
        by m l P f p =
            by_lt m (length numbers) (λ (g : m < length numbers). subst P (sym (front m g)) (f g))
            (λ (g : length numbers ≤ m). subst P (sym (back m (omega (arith, l, g, size)))) p)

  pub all_numbers : (k : ℕ) (numbers : List ℕ) → length marks ≤ k → k ≤ length marks
      → AreMarkedTo marks mark k numbers → AreMarkedTo marks mark (length marks) numbers
  all_numbers k numbers l m a =
      subst (λ (n : ℕ). AreMarkedTo marks mark n numbers) (omega (arith, l, m)) a

-- ---- boxes
one_place : (p : Point) → InBox (record { low = p; high = p }) (point p)
one_place p = record {
  left = omega (arith, ints);
  right = omega (arith, ints);
  under = omega (arith, ints);
  over = omega (arith, ints);
}

pub no_boxes : (points : List Placed) (boxes : List Reach) → boxes ≡ []
    → ArePointBoxes points 0 boxes
no_boxes points boxes e = record { size = ap length e; holds = λ j l. absurd (omega (arith, l)) }

pub point_box_more : (points : List Placed) (k : ℕ) (boxes new : List Reach) (r : Reach)
    → ArePointBoxes points k boxes → new ≡ boxes ++ r ∷ [] → r ≡ record {
      low = placed_at points k;
      high = placed_at points k;
    } → ArePointBoxes points (k + 1) new
point_box_more points k boxes new r a q e = record {
  size = size_more boxes new r no_reach k q a.size;
  holds = λ j l. by_lt j k
      (λ (g : j < k). subst (λ b. InBox (box_of b) (point (placed_at points j)))
      (sym (front_of boxes new r no_reach k q a.size j g)) (a.holds j g))
      (λ (g : k ≤ j). let s = last j k l g in
      subst (λ b. InBox (box_of b) (point (placed_at points j)))
      (sym (last_of boxes new r no_reach k q a.size j s ∙ e
      ∙ ap (λ (n : ℕ). record { low = placed_at points n; high = placed_at points n }) (sym s)))
      (one_place (placed_at points j)));
}

pub all_points : (points : List Placed) (k : ℕ) (boxes : List Reach) → length points ≤ k
    → k ≤ length points → ArePointBoxes points k boxes → ArePointBoxes points (length points) boxes
all_points points k boxes l m a =
    subst (λ (n : ℕ). ArePointBoxes points n boxes) (omega (arith, l, m)) a

pub no_curve_boxes : (d : Plan) (numbers : List ℕ) (boxes : List Reach)
    → ArePointBoxes d.points (length d.points) boxes → AreCurveBoxes d numbers 0 boxes
no_curve_boxes d numbers boxes a = record {
  size = (let s = a.size in omega (arith, s));
  points = a.holds;
  holds = λ m l. absurd (omega (arith, l));
}

pub curve_box_more : (d : Plan) (numbers : List ℕ) (k : ℕ) (boxes new : List Reach) (r : Reach)
    → AreCurveBoxes d numbers k boxes → new ≡ boxes ++ r ∷ []
    → HoldsCurve (box_of r) (curve d (number_of numbers k)) → AreCurveBoxes d numbers (k + 1) new
curve_box_more d numbers k boxes new r a q h = record {
  size = (let s = size_more boxes new r no_reach (length d.points + k) q a.size in
      omega (arith, s));
  points = λ j l. subst (λ b. InBox (box_of b) (point (object d j)))
      (sym (front_of boxes new r no_reach (length d.points + k) q a.size j (omega (arith, l))))
      (a.points j l);
  holds = λ m l. by_lt m k
      (λ (g : m < k). subst (λ b. HoldsCurve (box_of b) (curve d (number_of numbers m)))
      (sym (front_of boxes new r no_reach (length d.points + k) q a.size (length d.points + m)
      (omega (arith, g)))) (a.holds m g))
      (λ (g : k ≤ m). let s = last m k l g in
      subst (λ b. HoldsCurve (box_of b) (curve d (number_of numbers m)))
      (sym (last_of boxes new r no_reach (length d.points + k) q a.size (length d.points + m)
      (ap (λ (n : ℕ). length d.points + n) s)))
      (subst (λ (n : ℕ). HoldsCurve (box_of r) (curve d (number_of numbers n))) (sym s) h));
}

pub all_curve_boxes : (d : Plan) (numbers : List ℕ) (k : ℕ) (boxes : List Reach)
    → length numbers ≤ k → k ≤ length numbers → AreCurveBoxes d numbers k boxes
    → AreCurveBoxes d numbers (length numbers) boxes
all_curve_boxes d numbers k boxes l m a =
    subst (λ (n : ℕ). AreCurveBoxes d numbers n boxes) (omega (arith, l, m)) a

-- ---- tests
pub refuted : (A : Type 0) (r : Bool) → (IsTrue r ↔ A) → r ≡ false → A → ⊥
refuted A true h f a = cc
refuted A false h f a = no (h.1 a)
  where
    no : IsTrue false → ⊥
    no t = cc
