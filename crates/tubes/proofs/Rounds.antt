-- The points of a tube round by round: what is made for two neighbours, what is made for a list of
-- them, and how near they stay.
use Rattle.std.proofs.Common.{rules, ◌≡◌, ℕ, zero, suc, ◌+◌, ◌-◌, ◌*◌, ◌/◌, ◌<◌, ◌≤◌, ◌^◌, Bool}
use Rattle.std.proofs.Common.{true, false, cond, nat_lt, Option, None, Some, List, [], ◌∷◌, ◌++◌}
use Rattle.std.proofs.Common.{length, drop, ℤ, pos, ◌+ℤ◌, ◌*ℤ◌, ◌-ℤ◌, ◌<ℤ◌, ◌≤ℤ◌, arith, ap, refl}
use Rattle.std.proofs.Common.{sym, ◌∙◌, subst, append_assoc, append-nil, add-one, drop-cons}
use Rattle.std.proofs.lemmas.Grind.{common_steps}
use Rattle.std.proofs.lemmas.Int.{ints}
use Rattle.std.proofs.Math.Pow.{pow_mono}
use Rattle.plane.specs.Lists.{Each}
use Rattle.plane.specs.Numbers.{IsNear}
use Rattle.plane.specs.Rule.HalfArcs.{HalfArc, HasCircle}
use Rattle.plane.specs.Rule.Turns.{AreNear}
use Rattle.plane.specs.declared.kinds.Point.{Point}
use Rattle.tubes.specs.HalfArcTubes.{and_then, beside, count, inner_points, is_inside, outer_points}
use Rattle.tubes.specs.HalfArcTubes.{refine, whole_distance, with_bits}
use Rattle.tubes.specs.Holding.{nth}
use Rattle.tubes.specs.Making.{AreSteps, middle, over}
use Rattle.tubes.proofs.CountNumbers.{IsBeside, is_beside, near_more}
use Rattle.tubes.proofs.TubePoints.{inner_are, some_same, taken}

-- ---- the count
bits_below : (test : ℕ → Bool) (b k : ℕ) → with_bits test b k < k + 2 ^ b
unfolding with_bits
bits_below test zero k = omega arith
bits_below test (suc b) k =
    by_test (test (k + 2 ^ b)) (bits_below test b (k + 2 ^ b)) (bits_below test b k)
  where
    by_test : (t : Bool) → with_bits test b (k + 2 ^ b) < (k + 2 ^ b) + 2 ^ b
        → with_bits test b k < k + 2 ^ b → with_bits test b (cond t (k + 2 ^ b) k) < k + 2 ^ suc b
    by_test true h g = omega (arith, h)
    by_test false h g = omega (arith, g)

pub record IsCounted (h : HalfArc) (p q : Point) (k : ℕ) : Type 0 where
  pub some : 0 < whole_distance p q
  pub small : k < 2 ^ 27

pub counted : (h : HalfArc) (p q : Point) (k : ℕ) → count h p q ≡ Some k → IsCounted h p q k
unfolding count
counted h p q k e = by_first _ refl e
  where
    by_second : (t : Bool) → cond t (Some (with_bits (is_inside h p q) 27 0)) None ≡ Some k
        → k < 2 ^ 27
    by_second true f =
        subst (λ (n : ℕ). n < 2 ^ 27) (some_same _ _ f) (bits_below (is_inside h p q) 27 0)
    by_second false f = cc

    by_first : (t : Bool) → nat_lt 0 (whole_distance p q) ≡ t
        → cond t (cond (is_inside h p q 0) (Some (with_bits (is_inside h p q) 27 0)) None) None
        ≡ Some k
        → IsCounted h p q k
    by_first true l f = record { some = search rules; small = by_second _ f }
    by_first false l f = cc

pub no_count : (h : HalfArc) (p q : Point) → whole_distance p q ≡ 0 → count h p q ≡ None
unfolding count
no_count h p q e =
    ap (λ n. cond (nat_lt 0 n)
    (cond (is_inside h p q 0) (Some (with_bits (is_inside h p q) 27 0)) None) None) e

-- ---- what is made for two neighbours
pub none_of : {X Y : Type 0} (o : Option X) (f : X → Option Y) → o ≡ None → None ≡ and_then o f
none_of o f e = ap (λ o. and_then o f) (sym e)

pub some_of : {X Y : Type 0} (o : Option X) (f : X → Option Y) (x : X) → o ≡ Some x
    → f x ≡ and_then o f
some_of o f x e = ap (λ o. and_then o f) (sym e)

pub at_ends : {X : Type 0} (f : Point → Point → X) (p q s t : Point) → s ≡ p → t ≡ q → f p q ≡ f s t
at_ends f p q s t e g = ap (λ v. f v q) (sym e) ∙ ap (λ v. f s v) (sym g)

-- ---- what is made for a list
abbrev pub put_before : List Point → Option (List Point) → Option (List Point)
put_before made o = and_then o (λ rest. Some (made ++ rest))

pub refine_none : (h : HalfArc) (p q : Point) (qs : List Point) → middle h p q ≡ None
    → refine h p (q ∷ qs) ≡ None
unfolding refine
refine_none h p q qs e = by_count (count h p q) e
  where
    by_count : (o : Option ℕ) → and_then o (λ k. Some (beside h p q (pos k -ℤ pos 2))) ≡ None
        → and_then o
        (λ k. and_then (refine h q qs)
        (λ rest. Some (beside h p q (pos k -ℤ pos 2) ∷ q ∷ rest))) ≡ None
    by_count None e = refl
    by_count (Some k) e = cc

pub refine_some : (h : HalfArc) (p q v : Point) (qs : List Point) → middle h p q ≡ Some v
    → refine h p (q ∷ qs) ≡ and_then (refine h q qs) (λ rest. Some (v ∷ q ∷ rest))
unfolding refine
refine_some h p q v qs e = by_count (count h p q) e
  where
    by_count : (o : Option ℕ) → and_then o (λ k. Some (beside h p q (pos k -ℤ pos 2))) ≡ Some v
        → and_then o
        (λ k. and_then (refine h q qs)
        (λ rest. Some (beside h p q (pos k -ℤ pos 2) ∷ q ∷ rest)))
        ≡ and_then (refine h q qs) (λ rest. Some (v ∷ q ∷ rest))
    by_count None e = cc
    by_count (Some k) e =
        ap (λ w. and_then (refine h q qs) (λ rest. Some (w ∷ q ∷ rest))) (some_same _ _ e)

put_two : (made : List Point) (v q : Point) (o : Option (List Point))
    → put_before made (and_then o (λ rest. Some (v ∷ q ∷ rest)))
    ≡ put_before ((made ++ v ∷ []) ++ q ∷ []) o
put_two made v q None = refl
put_two made v q (Some rest) =
    ap (λ s. Some s)
    (sym (append_assoc (made ++ v ∷ []) (q ∷ []) rest ∙ append_assoc made (v ∷ []) (q ∷ rest)))

pub refine_step : (h : HalfArc) (p q v : Point) (qs made more : List Point)
    (all : Option (List Point))
    → middle h p q ≡ Some v → more ≡ (made ++ v ∷ []) ++ q ∷ []
    → put_before made (refine h p (q ∷ qs)) ≡ all → put_before more (refine h q qs) ≡ all
refine_step h p q v qs made more all e m i =
    ap (λ s. put_before s (refine h q qs)) m ∙ sym (put_two made v q (refine h q qs))
    ∙ ap (λ o. put_before made o) (sym (refine_some h p q v qs e)) ∙ i

pub refine_stops : (h : HalfArc) (p q : Point) (qs made : List Point) (all : Option (List Point))
    → None ≡ middle h p q → put_before made (refine h p (q ∷ qs)) ≡ all → all ≡ None
refine_stops h p q qs made all e i =
    sym i ∙ ap (λ o. put_before made o) (refine_none h p q qs (sym e))

pub refine_ends : (h : HalfArc) (p : Point) (qs made : List Point) (all : Option (List Point))
    → qs ≡ [] → put_before made (refine h p qs) ≡ all → all ≡ Some made
unfolding refine
refine_ends h p qs made all e i = sym i ∙ ap (λ qs. put_before made (refine h p qs)) e
    ∙ ap (λ s. Some s) (append-nil made)

pub outer_none : (h : HalfArc) (p q : Point) (qs : List Point) → over h p q ≡ None
    → outer_points h p (q ∷ qs) ≡ None
unfolding outer_points
outer_none h p q qs e = by_count (count h p q) e
  where
    by_count : (o : Option ℕ) → and_then o (λ k. Some (beside h p q (pos ((5 * k) / 2 + 4)))) ≡ None
        → and_then o
        (λ k. and_then (outer_points h q qs)
        (λ rest. Some (beside h p q (pos ((5 * k) / 2 + 4)) ∷ rest))) ≡ None
    by_count None e = refl
    by_count (Some k) e = cc

pub outer_some : (h : HalfArc) (p q v : Point) (qs : List Point) → over h p q ≡ Some v
    → outer_points h p (q ∷ qs) ≡ and_then (outer_points h q qs) (λ rest. Some (v ∷ rest))
unfolding outer_points
outer_some h p q v qs e = by_count (count h p q) e
  where
    by_count : (o : Option ℕ)
        → and_then o (λ k. Some (beside h p q (pos ((5 * k) / 2 + 4)))) ≡ Some v
        → and_then o
        (λ k. and_then (outer_points h q qs)
        (λ rest. Some (beside h p q (pos ((5 * k) / 2 + 4)) ∷ rest)))
        ≡ and_then (outer_points h q qs) (λ rest. Some (v ∷ rest))
    by_count None e = cc
    by_count (Some k) e =
        ap (λ w. and_then (outer_points h q qs) (λ rest. Some (w ∷ rest))) (some_same _ _ e)

put_one : (made : List Point) (v : Point) (o : Option (List Point))
    → put_before made (and_then o (λ rest. Some (v ∷ rest))) ≡ put_before (made ++ v ∷ []) o
put_one made v None = refl
put_one made v (Some rest) = ap (λ s. Some s) (sym (append_assoc made (v ∷ []) rest))

pub outer_step : (h : HalfArc) (p q v : Point) (qs made more : List Point)
    (all : Option (List Point))
    → over h p q ≡ Some v → more ≡ made ++ v ∷ []
    → put_before made (outer_points h p (q ∷ qs)) ≡ all
    → put_before more (outer_points h q qs) ≡ all
outer_step h p q v qs made more all e m i =
    ap (λ s. put_before s (outer_points h q qs)) m ∙ sym (put_one made v (outer_points h q qs))
    ∙ ap (λ o. put_before made o) (sym (outer_some h p q v qs e)) ∙ i

pub outer_stops : (h : HalfArc) (p q : Point) (qs made : List Point) (all : Option (List Point))
    → None ≡ over h p q → put_before made (outer_points h p (q ∷ qs)) ≡ all → all ≡ None
outer_stops h p q qs made all e i =
    sym i ∙ ap (λ o. put_before made o) (outer_none h p q qs (sym e))

pub outer_ends : (h : HalfArc) (p : Point) (qs made : List Point) (all : Option (List Point))
    → qs ≡ [] → put_before made (outer_points h p qs) ≡ all → all ≡ Some made
unfolding outer_points
outer_ends h p qs made all e i = sym i ∙ ap (λ qs. put_before made (outer_points h p qs)) e
    ∙ ap (λ s. Some s) (append-nil made)

pub put_nothing : (o : Option (List Point)) → put_before [] o ≡ o
put_nothing None = refl
put_nothing (Some rest) = refl

-- ---- how near the points stay
near_sum : (m n : ℕ) (a b c : Point) → AreNear m a b → AreNear n b c → AreNear (m + n) a c
near_sum m n a b c h k = record {
  x = record {
    above = omega (arith, ints, h.x.above, k.x.above);
    below = omega (arith, ints, h.x.below, k.x.below);
  };
  y = record {
    above = omega (arith, ints, h.y.above, k.y.above);
    below = omega (arith, ints, h.y.below, k.y.below);
  };
}

abbrev Most : ℕ
Most = 2 ^ 27 - 3

step_on : (p q v : Point) → AreNear (2 ^ 28) p q → IsBeside Most p q v
    → AreNear (2 ^ 28) p v × AreNear (2 ^ 28) v q
step_on p q v h b = (
  record { x = first p.x q.x v.x h.x b.right b.left; y = first p.y q.y v.y h.y b.above b.below },
  record { x = second p.x q.x v.x h.x b.right b.left; y = second p.y q.y v.y h.y b.above b.below },
)
  where
    first : (p q v : ℤ) → IsNear (2 ^ 28) p q → (pos 2 *ℤ v) ≤ℤ ((p +ℤ q) +ℤ pos (2 * Most))
        → (p +ℤ q) <ℤ ((pos 2 *ℤ v) +ℤ pos (2 * Most + 2)) → IsNear (2 ^ 28) p v
    first p q v h u l = record {
      above = omega (arith, ints, h.above, h.below, u, l);
      below = omega (arith, ints, h.above, h.below, u, l);
    }

    second : (p q v : ℤ) → IsNear (2 ^ 28) p q → (pos 2 *ℤ v) ≤ℤ ((p +ℤ q) +ℤ pos (2 * Most))
        → (p +ℤ q) <ℤ ((pos 2 *ℤ v) +ℤ pos (2 * Most + 2)) → IsNear (2 ^ 28) v q
    second p q v h u l = record {
      above = omega (arith, ints, h.above, h.below, u, l);
      below = omega (arith, ints, h.above, h.below, u, l);
    }

refined_near : (h : HalfArc) (r : ℕ) (p : Point) (vs ws : List Point) → refine h p vs ≡ Some ws
    → AreNear r h.from p → Each (AreNear r h.from) vs → AreSteps p vs
    → AreSteps p ws × Each (AreNear (r + 2 ^ 28) h.from) ws
unfolding refine
refined_near h r p [] ws e n ns st =
    subst (λ ws. AreSteps p ws × Each (AreNear (r + 2 ^ 28) h.from) ws) (some_same _ _ e) (tt, tt)
refined_near h r p (q ∷ vs) ws e n ns st =
    let (k, ek, f) = taken (count h p q) _ ws e in
    let (rest, er, g) = taken (refine h q vs) _ ws f in
    let i = refined_near h r q vs rest er ns.0 ns.1 st.1 in
    let c = counted h p q k ek in
    let b = is_beside h p q (pos k -ℤ pos 2) Most c.some (omega (arith, ints, c.small))
    (omega (arith, ints, c.small)) in
    let s = step_on p q (beside h p q (pos k -ℤ pos 2)) st.0 b in
    subst (λ ws. AreSteps p ws × Each (AreNear (r + 2 ^ 28) h.from) ws) (some_same _ _ g) (
      (s.0, (s.1, i.0)),
      (
        near_sum r (2 ^ 28) h.from p _ n s.0,
        (near_more r (r + 2 ^ 28) h.from q (omega arith) ns.0, i.1),
      ),
    )

pub self_near : (r : ℕ) (p : Point) → 0 < r → AreNear r p p
self_near r p l = record {
  x = record { above = omega (arith, ints, l); below = omega (arith, ints, l) };
  y = record { above = omega (arith, ints, l); below = omega (arith, ints, l) };
}

pub record AreAtHand (h : HalfArc) (r : ℕ) (vs : List Point) : Type 0 where
  pub steps : AreSteps h.from vs
  pub near : Each (AreNear r h.from) vs

pub inner_at_hand : (h : HalfArc) (n : ℕ) (vs : List Point) → HasCircle h
    → inner_points h n ≡ Some vs → AreAtHand h ((n + 1) * 2 ^ 28) vs
unfolding inner_points
inner_at_hand h zero vs c e = subst (AreAtHand h ((0 + 1) * 2 ^ 28)) (some_same _ _ e) (record {
  steps = (near_more (2 ^ 26) (2 ^ 28) h.from h.to (omega arith) c.ends, tt);
  near = (near_more (2 ^ 26) (2 ^ 28) h.from h.to (omega arith) c.ends, tt);
})
inner_at_hand h (suc n) vs c e =
    let (us, eu, f) = taken (inner_points h n) _ vs e in
    let i = inner_at_hand h n us c eu in
    let r = refined_near h ((n + 1) * 2 ^ 28) h.from us vs f
    (self_near ((n + 1) * 2 ^ 28) h.from (omega arith)) i.near i.steps in
    record { steps = r.0; near = subst (λ (m : ℕ). Each (AreNear m h.from) vs) (more n) r.1 }
  where
    more : (n : ℕ) → (n + 1) * 2 ^ 28 + 2 ^ 28 ≡ (suc n + 1) * 2 ^ 28
    more n = omega arith

pub each_near : (s : Point) (m n : ℕ) (vs : List Point) → m ≤ n → Each (AreNear m s) vs
    → Each (AreNear n s) vs
each_near s m n [] l h = tt
each_near s m n (v ∷ vs) l h = (near_more m n s v l h.0, each_near s m n vs l h.1)

-- ---- rounds
rounds_more : (h : HalfArc) (n more : ℕ) → inner_points h n ≡ None
    → inner_points h (n + more) ≡ None
unfolding inner_points
rounds_more h n zero e = ap (λ m. inner_points h m) (same n) ∙ e
  where
    same : (n : ℕ) → n + 0 ≡ n
    same n = omega arith
rounds_more h n (suc more) e = ap (λ m. inner_points h m) (later n more)
    ∙ ap (λ o. and_then o (refine h h.from)) (rounds_more h n more e)
  where
    later : (n more : ℕ) → n + suc more ≡ suc (n + more)
    later n more = omega arith

pub rounds_stop : (h : HalfArc) (n m : ℕ) → n ≤ m → inner_points h n ≡ None
    → inner_points h m ≡ None
rounds_stop h n m l e = ap (λ m. inner_points h m) (back n m l) ∙ rounds_more h n (m - n) e
  where
    back : (n m : ℕ) → n ≤ m → m ≡ n + (m - n)
    back n m l = omega (arith, l)

pub next_round : (h : HalfArc) (n : ℕ) (vs : List Point) → inner_points h n ≡ Some vs
    → refine h h.from vs ≡ inner_points h (n + 1)
unfolding inner_points
next_round h n vs e = ap (λ o. and_then o (refine h h.from)) (sym e)
    ∙ ap (λ m. inner_points h m) (sym (add-one n))

pub first_round : (h : HalfArc) (vs : List Point) → vs ≡ h.to ∷ [] → inner_points h 0 ≡ Some vs
unfolding inner_points
first_round h vs e = ap (λ s. Some s) (sym e)

pub all_dropped : (vs : List Point) (n : ℕ) → length vs ≤ n → drop n vs ≡ []
all_dropped vs n l = grind (arith, common_steps)

pub dropped : (vs : List Point) (n : ℕ) → n < length vs → drop n vs ≡ nth vs n ∷ drop (n + 1) vs
dropped vs n l = drop-cons vs n (record { x = pos 0; y = pos 0 }) l
    ∙ ap (λ m. nth vs n ∷ drop m vs) (sym (add-one n))

pub few_points : (h : HalfArc) (n : ℕ) (vs : List Point) → n ≤ 6 → inner_points h n ≡ Some vs
    → length vs < 2 ^ 20
few_points h n vs l e =
    let r = (inner_are h n vs e).size in let p = pow_mono l in omega (arith, r, p)

pub pushed_two : (made mid more : List Point) (v q : Point) → more ≡ mid ++ q ∷ []
    → mid ≡ made ++ v ∷ [] → more ≡ (made ++ v ∷ []) ++ q ∷ []
pushed_two made mid more v q e f = e ∙ ap (λ s. s ++ q ∷ []) f
