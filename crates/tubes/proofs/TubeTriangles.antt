-- The triangles of a tube: turns tell whether a point is in one, and the tube holds what is in one
-- of them.
use Rattle.std.proofs.Common.{rules, ◌≡◌, ◌↔◌, ◌⊎◌, inl, inr, ◌^◌, ◌+◌, ◌-◌, ◌<◌, ◌≤◌, ℕ, zero, suc}
use Rattle.std.proofs.Common.{Bool, true, false, IsTrue, ℤ, pos, ◌*ℤ◌, ◌-ℤ◌, ◌<ℤ◌, ◌≤ℤ◌, [], ◌∷◌}
use Rattle.std.proofs.Common.{List, length, arith, ap, refl, sym, ◌∙◌, subst, add-one}
use Rattle.std.proofs.lemmas.Int.{ints}
use Rattle.plane.specs.Forms.Vectors.{Place, Vector, point, side}
use Rattle.plane.specs.Lists.{Each, Neighbours}
use Rattle.plane.specs.Rule.HalfArcs.{HalfArc, bend}
use Rattle.plane.specs.Rule.Turns.{AreNear, cross}
use Rattle.plane.specs.Tubes.Bays.{AreBays, AreNext, InBays, InGaps, InTriangle, InTube, bays}
use Rattle.plane.specs.Tubes.Bays.{outward}
use Rattle.plane.specs.Tubes.CapStrips.{line}
use Rattle.plane.specs.declared.kinds.Point.{Point}
use Rattle.plane.proofs.Algebra.Ring.{at, minus, num, ring, times, vars}
use Rattle.plane.proofs.OneTube.TriangleSides.{sides_triangle, triangle_sides, triangle_swapped}
use Rattle.arc_predicates.proofs.TestParts.{refuted}
use Rattle.straight_predicates.proofs.Orders.{by_lt}
use Rattle.straight_predicates.specs.Meetings.{AreClose}
use Rattle.tubes.specs.HalfArcTubes.{IsTubeOf}
use Rattle.tubes.specs.Holding.{AreTurnable, InBay, InGap, InSomeBay, InSomeGap, InTubeFrom}
use Rattle.tubes.specs.Holding.{IsLeftOfSides, IsSomeTube, IsTurnable, nth}
use Rattle.tubes.specs.declared.kinds.Tube.{Tube}
use Rattle.tubes.proofs.TubePoints.{outer_size}

-- ---- turns
cross_is : (p q v : Point) → cross p q v ≡ side (line p q) (point v)
unfolding side
cross_is p q v = let a = one p.x in let b = one p.y in rw (a, b) refl
  where
    one : (z : ℤ) → z *ℤ pos 1 ≡ z
    one z = omega (arith, ints)

pub cross_swapped : (p q r : Point) → cross p r q ≡ pos 0 -ℤ cross p q r
cross_swapped p q r = ring
    (minus (times (minus (at 4) (at 0)) (minus (at 3) (at 1)))
    (times (minus (at 5) (at 1)) (minus (at 2) (at 0))))
    (minus (num (pos 0))
    (minus (times (minus (at 2) (at 0)) (minus (at 5) (at 1)))
    (times (minus (at 3) (at 1)) (minus (at 4) (at 0)))))
    (vars (p.x ∷ p.y ∷ q.x ∷ q.y ∷ r.x ∷ r.y ∷ [])) refl

cross_round : (p q r : Point) → cross p q r ≡ cross q r p
cross_round p q r = ring
    (minus (times (minus (at 2) (at 0)) (minus (at 5) (at 1)))
    (times (minus (at 3) (at 1)) (minus (at 4) (at 0))))
    (minus (times (minus (at 4) (at 2)) (minus (at 1) (at 3)))
    (times (minus (at 5) (at 3)) (minus (at 0) (at 2))))
    (vars (p.x ∷ p.y ∷ q.x ∷ q.y ∷ r.x ∷ r.y ∷ [])) refl

least_by : (a b : ℤ) → a ≡ b → pos 0 ≤ℤ a → pos 0 ≤ℤ b
least_by a b e l = subst (λ z. pos 0 ≤ℤ z) e l

place_of : (v : Point) → Place (point v)
place_of v = search rules

pub in_left : (p q r v : Point) → pos 0 <ℤ cross p q r
    → IsLeftOfSides p q r v ↔ InTriangle (point v) (point p) (point q) (point r)
in_left p q r v l =
    let d : pos 0 <ℤ side (line p q) (point r) = subst (λ z. pos 0 <ℤ z) (cross_is p q r) l in (
      (λ s. sides_triangle p q r (point v) (place_of v) d
          (record {
            first = least_by _ _ (cross_is p q v) s.first;
            second = least_by _ _ (cross_is q r v) s.second;
            third = least_by _ _ (cross_is r p v) s.third;
          })),
      (λ t. let s = triangle_sides p q r (point v) (place_of v) d t in
          record {
            first = least_by _ _ (sym (cross_is p q v)) s.first;
            second = least_by _ _ (sym (cross_is q r v)) s.second;
            third = least_by _ _ (sym (cross_is r p v)) s.third;
          }),
    )

pub in_right : (p q r v : Point) → cross p q r <ℤ pos 0
    → IsLeftOfSides p r q v ↔ InTriangle (point v) (point p) (point q) (point r)
in_right p q r v l =
    let e = cross_swapped p q r in
    let i = in_left p r q v (omega (arith, ints, l, e)) in (
      (λ s. triangle_swapped (point v) (point p) (point r) (point q) (i.0 s)),
      (λ t. i.1 (triangle_swapped (point v) (point p) (point q) (point r) t)),
    )

close_back : (p q : Point) → AreClose p q → AreClose q p
close_back p q h = record {
  x = record { above = omega (arith, ints, h.x.below); below = omega (arith, ints, h.x.above) };
  y = record { above = omega (arith, ints, h.y.below); below = omega (arith, ints, h.y.above) };
}

pub turnable_swapped : (p q r v : Point) → IsTurnable p q r v → IsTurnable p r q v
turnable_swapped p q r v t = record {
  bent = λ e. t.bent (let f = cross_swapped p q r in omega (arith, ints, e, f));
  first = t.second;
  second = t.first;
  third = close_back q r t.third;
  p_at = t.p_at;
  q_at = t.r_at;
  r_at = t.q_at;
}

pub by_equal : (b : Bool) (A B : Type 0) → (IsTrue b ↔ A) → (A ↔ B) → IsTrue b ↔ B
by_equal b A B h i = ((λ t. i.0 (h.0 t)), (λ x. h.1 (i.1 x)))

pub left_sides : (p q r v : Point)
    → ((pos 0 ≤ℤ cross p q v) × ((pos 0 ≤ℤ cross q r v) × (pos 0 ≤ℤ cross r p v)))
    ↔ IsLeftOfSides p q r v
left_sides p q r v = (
  (λ h. record { first = h.0; second = h.1.0; third = h.1.1 }),
  (λ s. (s.first, (s.second, s.third))),
)

-- ---- triangles by number
shift_bay : (v w : Point) (vs os : List Point) (o : Point) (z : Vector) → InSomeBay (w ∷ vs) os z
    → InSomeBay (v ∷ (w ∷ vs)) (o ∷ os) z
shift_bay v w vs os o z (i, l, t) = (suc i, omega (arith, l), t)

pub bays_by_number : (v : Point) (vs os : List Point) (z : Vector) → length vs ≡ length os
    → InSomeBay (v ∷ vs) os z ↔ InBays v (bays vs os) z
bays_by_number v [] [] z e = ((λ p. none p), (λ b. absurd b))
  where
    none : InSomeBay (v ∷ []) [] z → ⊥
    none (i, l, t) = omega (arith, l)
bays_by_number v [] (o ∷ os) z e = absurd (omega (arith, e))
bays_by_number v (w ∷ vs) [] z e = absurd (omega (arith, e))
bays_by_number v (w ∷ vs) (o ∷ os) z e =
    let r = bays_by_number w vs os z (omega (arith, e)) in ((λ p. onward r p), (λ b. back r b))
  where
    onward : (InSomeBay (w ∷ vs) os z ↔ InBays w (bays vs os) z)
        → InSomeBay (v ∷ (w ∷ vs)) (o ∷ os) z → InBays v (bays (w ∷ vs) (o ∷ os)) z
    onward r (zero, l, t) = inl t
    onward r (suc i, l, t) = inr (r.0 (i, omega (arith, l), t))

    back : (InSomeBay (w ∷ vs) os z ↔ InBays w (bays vs os) z) → InBays v (bays (w ∷ vs) (o ∷ os)) z
        → InSomeBay (v ∷ (w ∷ vs)) (o ∷ os) z
    back r (inl t) = (0, omega arith, t)
    back r (inr b) = shift_bay v w vs os o z (r.1 b)

shift_gap : (v w : Point) (vs os : List Point) (o : Point) (z : Vector) → InSomeGap (w ∷ vs) os z
    → InSomeGap (v ∷ (w ∷ vs)) (o ∷ os) z
shift_gap v w vs os o z (i, l, t) = (suc i, omega (arith, l), t)

pub gaps_by_number : (v : Point) (vs os : List Point) (z : Vector) → length vs ≡ length os
    → InSomeGap (v ∷ vs) os z ↔ InGaps (bays vs os) z
gaps_by_number v [] [] z e = ((λ p. none p), (λ b. absurd b))
  where
    none : InSomeGap (v ∷ []) [] z → ⊥
    none (i, l, t) = omega (arith, l)
gaps_by_number v [] (o ∷ os) z e = absurd (omega (arith, e))
gaps_by_number v (w ∷ vs) [] z e = absurd (omega (arith, e))
gaps_by_number v (w ∷ []) (o ∷ []) z e = ((λ p. none p), (λ b. absurd b))
  where
    none : InSomeGap (v ∷ (w ∷ [])) (o ∷ []) z → ⊥
    none (i, l, t) = omega (arith, l)
gaps_by_number v (w ∷ []) (o ∷ (n ∷ os)) z e = absurd (omega (arith, e))
gaps_by_number v (w ∷ (x ∷ vs)) (o ∷ []) z e = absurd (omega (arith, e))
gaps_by_number v (w ∷ (x ∷ vs)) (o ∷ (n ∷ os)) z e =
    let r = gaps_by_number w (x ∷ vs) (n ∷ os) z (omega (arith, e)) in
    ((λ p. onward r p), (λ b. back r b))
  where
    onward : (InSomeGap (w ∷ (x ∷ vs)) (n ∷ os) z ↔ InGaps (bays (x ∷ vs) (n ∷ os)) z)
        → InSomeGap (v ∷ (w ∷ (x ∷ vs))) (o ∷ (n ∷ os)) z
        → InGaps (bays (w ∷ (x ∷ vs)) (o ∷ (n ∷ os))) z
    onward r (zero, l, t) = inl t
    onward r (suc i, l, t) = inr (r.0 (i, omega (arith, l), t))

    back : (InSomeGap (w ∷ (x ∷ vs)) (n ∷ os) z ↔ InGaps (bays (x ∷ vs) (n ∷ os)) z)
        → InGaps (bays (w ∷ (x ∷ vs)) (o ∷ (n ∷ os))) z
        → InSomeGap (v ∷ (w ∷ (x ∷ vs))) (o ∷ (n ∷ os)) z
    back r (inl t) = (0, omega arith, t)
    back r (inr b) = shift_gap v w (x ∷ vs) (n ∷ os) o z (r.1 b)

-- ---- the triangles of a tube
each_nth : (P : Point → Type 0) (vs : List Point) (n : ℕ) → n < length vs → Each P vs → P (nth vs n)
each_nth P [] n l h = absurd (omega (arith, l))
each_nth P (v ∷ vs) zero l h = h.0
each_nth P (v ∷ vs) (suc n) l h = each_nth P vs n (omega (arith, l)) h.1

flat_outward : (h : HalfArc) (p q r : Point) → cross p q r ≡ pos 0 → outward h p q r ≡ pos 0
unfolding outward
flat_outward h p q r e = ap (λ z. pos 0 -ℤ (bend h *ℤ z)) e ∙ nothing (bend h)
  where
    nothing : (d : ℤ) → pos 0 -ℤ (d *ℤ pos 0) ≡ pos 0
    nothing d = omega (arith, ints)

bay_bent : (h : HalfArc) (v : Point) (vs os : List Point) (i : ℕ) → length vs ≡ length os
    → i < length os → AreBays h v (bays vs os)
    → cross (nth (v ∷ vs) i) (nth vs i) (nth os i) ≡ pos 0 → ⊥
bay_bent h v [] os i e l b = absurd (omega (arith, e, l))
bay_bent h v (w ∷ vs) [] i e l b = absurd (omega (arith, l))
bay_bent h v (w ∷ vs) (o ∷ os) zero e l b = λ f. let z = flat_outward h v w o f in
    let p = b.0.over in omega (arith, ints, z, p)
bay_bent h v (w ∷ vs) (o ∷ os) (suc i) e l b =
    bay_bent h w vs os i (omega (arith, e)) (omega (arith, l)) b.1

gap_bent : (h : HalfArc) (vs os : List Point) (i : ℕ) → length vs ≡ length os → suc i < length os
    → Neighbours (AreNext h) (bays vs os) → cross (nth vs i) (nth os i) (nth os (suc i)) ≡ pos 0 → ⊥
gap_bent h [] os i e l b = absurd (omega (arith, e, l))
gap_bent h (w ∷ vs) [] i e l b = absurd (omega (arith, l))
gap_bent h (w ∷ vs) (o ∷ []) i e l b = absurd (omega (arith, l))
gap_bent h (w ∷ []) (o ∷ (n ∷ os)) i e l b = absurd (omega (arith, e))
gap_bent h (w ∷ (x ∷ vs)) (o ∷ (n ∷ os)) zero e l b = λ f. let z =
    flat_outward h o n w (sym (cross_round w o n) ∙ f) in let p = b.0.under in
    omega (arith, ints, z, p)
gap_bent h (w ∷ (x ∷ vs)) (o ∷ (n ∷ os)) (suc i) e l b =
    gap_bent h (x ∷ vs) (n ∷ os) i (omega (arith, e)) (omega (arith, l)) b.1

near_close : (s p q : Point) → AreNear (2 ^ 28) s p → AreNear (2 ^ 28) s q → AreClose p q
near_close s p q h k = record {
  x = record { above = omega (arith, ints, h.x, k.x); below = omega (arith, ints, h.x, k.x) };
  y = record { above = omega (arith, ints, h.y, k.y); below = omega (arith, ints, h.y, k.y) };
}

self : (p : Point) → AreNear (2 ^ 28) p p
self p = record {
  x = record { above = omega (arith, ints); below = omega (arith, ints) };
  y = record { above = omega (arith, ints); below = omega (arith, ints) };
}

turnable : (h : HalfArc) (level : ℕ) (vs os : List Point) (v : Point) → IsTubeOf h level vs os
    → Each (λ p. AreClose p v) (h.from ∷ vs) → Each (λ p. AreClose p v) os
    → AreTurnable (h.from ∷ vs) os v
turnable h level vs os v t ci co =
    let n : length os ≡ length vs = outer_size h h.from vs os t.outer_made in
    let near : Each (AreNear (2 ^ 28) h.from) (h.from ∷ vs) = (self h.from, t.inner_near) in
    record {
      sizes = omega (arith, n);
      bays = λ i l. record {
        bent = bay_bent h h.from vs os i (sym n) l t.are_bays;
        first = near_close h.from _ _ (each_nth _ (h.from ∷ vs) i (omega (arith, l, n)) near)
            (each_nth _ vs i (omega (arith, l, n)) t.inner_near);
        second = near_close h.from _ _ (each_nth _ (h.from ∷ vs) i (omega (arith, l, n)) near)
            (each_nth _ os i l t.outer_near);
        third = near_close h.from _ _ (each_nth _ vs i (omega (arith, l, n)) t.inner_near)
            (each_nth _ os i l t.outer_near);
        p_at = each_nth (λ p. AreClose p v) (h.from ∷ vs) i (omega (arith, l, n)) ci;
        q_at = each_nth (λ p. AreClose p v) vs i (omega (arith, l, n)) ci.1;
        r_at = each_nth (λ p. AreClose p v) os i l co;
      };
      gaps = λ i l. record {
        bent = gap_bent h vs os i (sym n) l t.are_next;
        first = near_close h.from _ _ (each_nth _ vs i (omega (arith, l, n)) t.inner_near)
            (each_nth _ os i (omega (arith, l)) t.outer_near);
        second = near_close h.from _ _ (each_nth _ vs i (omega (arith, l, n)) t.inner_near)
            (each_nth _ os (suc i) l t.outer_near);
        third = near_close h.from _ _ (each_nth _ os i (omega (arith, l)) t.outer_near)
            (each_nth _ os (suc i) l t.outer_near);
        p_at = each_nth (λ p. AreClose p v) vs i (omega (arith, l, n)) ci.1;
        q_at = each_nth (λ p. AreClose p v) os i (omega (arith, l)) co;
        r_at = each_nth (λ p. AreClose p v) os (suc i) l co;
      };
    }

pub made_turnable : (t : Tube) (v : Point) → IsSomeTube t → Each (λ p. AreClose p v) t.inner.items
    → Each (λ p. AreClose p v) t.outer.items → AreTurnable t.inner.items t.outer.items v
made_turnable t v (h, level, m) ci co =
    subst (λ (vs : List Point). AreTurnable vs t.outer.items v) (sym m.inner)
    (turnable h level m.after t.outer.items v m.tube
    (subst (Each (λ p. AreClose p v)) m.inner ci) co)

pub held_is : (inner outer : List Point) (z : Vector) → length inner ≡ suc (length outer)
    → (InSomeBay inner outer z ⊎ InSomeGap inner outer z) ↔ InTubeFrom inner outer z
held_is [] outer z e = absurd (omega (arith, e))
held_is (v ∷ vs) outer z e =
    let n : length vs ≡ length outer = omega (arith, e) in
    let b = bays_by_number v vs outer z n in
    let g = gaps_by_number v vs outer z n in
    either b g
  where
    either : (InSomeBay (v ∷ vs) outer z ↔ InBays v (bays vs outer) z)
        → (InSomeGap (v ∷ vs) outer z ↔ InGaps (bays vs outer) z)
        → (InSomeBay (v ∷ vs) outer z ⊎ InSomeGap (v ∷ vs) outer z) ↔ InTubeFrom (v ∷ vs) outer z
    either b g = ((λ s. onward s), (λ t. back t))
      where
        onward : InSomeBay (v ∷ vs) outer z ⊎ InSomeGap (v ∷ vs) outer z
            → InTube v (bays vs outer) z
        onward (inl s) = inl (b.0 s)
        onward (inr s) = inr (g.0 s)

        back : InTube v (bays vs outer) z → InSomeBay (v ∷ vs) outer z ⊎ InSomeGap (v ∷ vs) outer z
        back (inl s) = inl (b.1 s)
        back (inr s) = inr (g.1 s)

pub held_by_bay : (inner outer : List Point) (z : Vector) (b : Bool)
    → length inner ≡ suc (length outer) → (IsTrue b ↔ InSomeBay inner outer z) → b ≡ true
    → IsTrue b ↔ InTubeFrom inner outer z
held_by_bay inner outer z b e f t = ((λ x. (held_is inner outer z e).0 (inl (f.0 x))), (λ x. t))

pub held_by_gap : (inner outer : List Point) (z : Vector) (b g : Bool)
    → length inner ≡ suc (length outer) → (IsTrue b ↔ InSomeBay inner outer z) → b ≡ false
    → (IsTrue g ↔ InSomeGap inner outer z)
    → IsTrue g ↔ InTubeFrom inner outer z
held_by_gap inner outer z b g e f t k = (
  (λ x. (held_is inner outer z e).0 (inr (k.0 x))),
  (λ x. by_place ((held_is inner outer z e).1 x)),
)
  where
    by_place : InSomeBay inner outer z ⊎ InSomeGap inner outer z → IsTrue g
    by_place (inl s) = absurd (refuted _ b f t s)
    by_place (inr s) = k.1 s

-- ---- loops over the triangles
pub none_more : (P : ℕ → Type 0) (n : ℕ) → ((k : ℕ) → k < n → P k → ⊥) → (P n → ⊥) → (k : ℕ)
    → k < n + 1 → P k → ⊥
none_more P n f g k l p =
    by_lt k n (λ (m : k < n). f k m p) (λ (m : n ≤ k). g (subst P (omega (arith, l, m)) p))

pub bay_next : (inner outer : List Point) (z : Vector) (i : ℕ)
    → InTriangle z (point (nth inner i)) (point (nth inner (i + 1))) (point (nth outer i))
    → InBay inner outer z i
bay_next inner outer z i t =
    subst (λ (j : ℕ). InTriangle z (point (nth inner i)) (point (nth inner j))
    (point (nth outer i))) (add-one i) t

pub bay_back : (inner outer : List Point) (z : Vector) (i : ℕ) → InBay inner outer z i
    → InTriangle z (point (nth inner i)) (point (nth inner (i + 1))) (point (nth outer i))
bay_back inner outer z i t =
    subst (λ (j : ℕ). InTriangle z (point (nth inner i)) (point (nth inner j))
    (point (nth outer i))) (sym (add-one i)) t

before : (i : ℕ) → 1 ≤ i → suc (i - 1) ≡ i
before i f = omega (arith, f)

pub gap_next : (inner outer : List Point) (z : Vector) (i : ℕ) → 1 ≤ i
    → InTriangle z (point (nth inner i)) (point (nth outer (i - 1))) (point (nth outer i))
    → InGap inner outer z (i - 1)
gap_next inner outer z i f t =
    subst (λ (j : ℕ). InTriangle z (point (nth inner j)) (point (nth outer (i - 1)))
    (point (nth outer j))) (sym (before i f)) t

pub gap_back : (inner outer : List Point) (z : Vector) (i : ℕ) → 1 ≤ i → InGap inner outer z (i - 1)
    → InTriangle z (point (nth inner i)) (point (nth outer (i - 1))) (point (nth outer i))
gap_back inner outer z i f t =
    subst (λ (j : ℕ). InTriangle z (point (nth inner j)) (point (nth outer (i - 1)))
    (point (nth outer j))) (before i f) t

pub no_gap_more : (P : ℕ → Type 0) (i : ℕ) → 1 ≤ i → ((k : ℕ) → suc k < i → P k → ⊥)
    → (P (i - 1) → ⊥) → (k : ℕ) → suc k < i + 1 → P k → ⊥
no_gap_more P i f n g k l p =
    by_lt (suc k) i (λ (m : suc k < i). n k m p) (λ (m : i ≤ suc k). g (subst P (last i k f l m) p))
  where
    last : (i k : ℕ) → 1 ≤ i → suc k < i + 1 → i ≤ suc k → k ≡ i - 1
    last i k f l m = omega (arith, f, l, m)
