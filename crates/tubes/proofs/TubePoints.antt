-- What the corners of a half arc's tube are: as many as the level says, on their sides, and the end
-- of the half arc last.
use Rattle.std.proofs.Common.{rules, ◌≡◌, ◌⊎◌, inl, inr, ℕ, zero, suc, ◌+◌, ◌*◌, ◌^◌, ◌<◌, ◌≤◌}
use Rattle.std.proofs.Common.{Bool, true, false, cond, nat_lt, Option, None, Some, List, [], ◌∷◌}
use Rattle.std.proofs.Common.{length, ℤ, pos, negsuc, ◌-ℤ◌, ◌<ℤ◌, ◌*ℤ◌, arith, ap, refl, sym, ◌∙◌}
use Rattle.std.proofs.Common.{subst}
use Rattle.std.proofs.lemmas.Int.{ints}
use Rattle.plane.specs.declared.kinds.Point.{Point}
use Rattle.plane.specs.Faces.Cells.{is_positive}
use Rattle.plane.specs.Lists.{Each, Last}
use Rattle.plane.specs.Forms.Vectors.{point}
use Rattle.plane.specs.Rule.HalfArcs.{HalfArc, bend, power}
use Rattle.plane.specs.Rule.Turns.{AreNear}
use Rattle.plane.specs.Tubes.Bays.{Bay, IsSome, IsTube, bays}
use Rattle.plane.proofs.Caps.Powers.{power-from, power-to}
use Rattle.tubes.specs.Making.{IsInDisk}
use Rattle.tubes.specs.HalfArcTubes.{IsTubeOf, and_then, beside, count, inner_points, is_inside}
use Rattle.tubes.specs.HalfArcTubes.{outer_points, refine, root, with_bits}

-- ---- options
pub some_same : {X : Type 0} (x y : X) → Some x ≡ Some y → x ≡ y
some_same x y e = ap (λ o. elim o [ None ↦ x | Some z ↦ z ]) e

pub taken : {X Y : Type 0} (o : Option X) (f : X → Option Y) (y : Y) → and_then o f ≡ Some y
    → (x : X) × (o ≡ Some x) × (f x ≡ Some y)
taken None f y e = cc
taken (Some x) f y e = (x, refl, e)

-- ---- the whole root
below : (a b : ℕ) → nat_lt a b ≡ true → a < b
below a b e = search rules

above : (a b : ℕ) → nat_lt a b ≡ false → b ≤ a
above a b e = search rules

greater : (r n : ℕ) → n < suc r * suc r → suc n < suc (suc r) * suc (suc r)
greater r n h = omega (arith, h)

pub root_is : (n : ℕ) → (root n * root n ≤ n) × (n < suc (root n) * suc (root n))
unfolding root
root_is zero = (omega arith, omega arith)
root_is (suc n) = by_test (nat_lt (suc n) (suc (root n) * suc (root n))) refl (root_is n)
  where
    by_test : (b : Bool) → nat_lt (suc n) (suc (root n) * suc (root n)) ≡ b
        → (root n * root n ≤ n) × (n < suc (root n) * suc (root n))
        → (cond b (root n) (suc (root n)) * cond b (root n) (suc (root n)) ≤ suc n)
        × (suc n < suc (cond b (root n) (suc (root n))) * suc (cond b (root n) (suc (root n))))
    by_test true e h = (omega (arith, h.0), below (suc n) _ e)
    by_test false e h = (above (suc n) _ e, greater (root n) n h.1)

-- ---- the count
counted : (test : ℕ → Bool) (b k : ℕ) → test k ≡ true → test (with_bits test b k) ≡ true
unfolding with_bits
counted test zero k e = e
counted test (suc b) k e = by_test (λ j f. counted test b j f) (test (k + 2 ^ b)) refl
  where
    by_test : ((j : ℕ) → test j ≡ true → test (with_bits test b j) ≡ true) → (t : Bool)
        → test (k + 2 ^ b) ≡ t → test (with_bits test b (cond t (k + 2 ^ b) k)) ≡ true
    by_test r true f = r (k + 2 ^ b) f
    by_test r false f = r k e

never : false ≡ true → ⊥
never e = cc

positive_is : (z : ℤ) → is_positive z ≡ true → pos 0 <ℤ z
positive_is (pos zero) e = absurd (never e)
positive_is (pos (suc n)) e = omega (arith, ints)
positive_is (negsuc n) e = absurd (never e)

pub negative_is : (z : ℤ) → is_positive (pos 0 -ℤ z) ≡ true → z <ℤ pos 0
negative_is z e = let l = positive_is (pos 0 -ℤ z) e in omega (arith, ints, l)

pub count_is_inside : (h : HalfArc) (p q : Point) (k : ℕ) → count h p q ≡ Some k
    → power h (point (beside h p q (pos k -ℤ pos 2))) <ℤ pos 0
unfolding count is_inside
count_is_inside h p q k e = by_first _ e
  where
    by_second : (t : Bool) → is_inside h p q 0 ≡ t
        → cond t (Some (with_bits (is_inside h p q) 27 0)) None ≡ Some k
        → power h (point (beside h p q (pos k -ℤ pos 2))) <ℤ pos 0
    by_second true f g =
        negative_is _
        (subst (λ (n : ℕ). is_inside h p q n ≡ true) (some_same _ _ g)
        (counted (is_inside h p q) 27 0 f))
    by_second false f g = cc

    by_first : (t : Bool)
        → cond t (cond (is_inside h p q 0) (Some (with_bits (is_inside h p q) 27 0)) None) None
        ≡ Some k
        → power h (point (beside h p q (pos k -ℤ pos 2))) <ℤ pos 0
    by_first true f = by_second (is_inside h p q 0) refl f
    by_first false f = cc

-- ---- the inner points
-- a point of the inner chain is strictly inside, or the half arc's end
abbrev IsInner : HalfArc → Point → Type 0
IsInner h v = (power h (point v) <ℤ pos 0) ⊎ (v ≡ h.to)

-- what a refined list of points has
pub record AreRefined (h : HalfArc) (n : ℕ) (vs : List Point) : Type 0 where
  pub size : length vs ≡ n
  pub sides : Each (IsInner h) vs
  pub end : Last (λ v. v ≡ h.to) vs

last_more : {X : Type 0} (P : X → Type 0) (x y : X) (xs : List X)
    → (0 < length xs → Last P (x ∷ xs)) → (xs ≡ [] → P x) → Last P (y ∷ x ∷ xs)
last_more P x y [] f g = g refl
last_more P x y (z ∷ xs) f g = f (omega arith)

refined : (h : HalfArc) (p : Point) (vs ws : List Point) → refine h p vs ≡ Some ws
    → Each (IsInner h) vs → Last (λ v. v ≡ h.to) vs → AreRefined h (length vs + length vs) ws
unfolding refine
refined h p [] ws e s l =
    subst (AreRefined h 0) (some_same _ _ e) (record { size = refl; sides = tt; end = tt })
refined h p (q ∷ vs) ws e s l =
    let (k, ek, f) = taken (count h p q) _ ws e in
    let (rest, er, g) = taken (refine h q vs) _ ws f in
    let r = refined h q vs rest er s.1 (later vs l) in
    subst (AreRefined h (length (q ∷ vs) + length (q ∷ vs))) (some_same _ _ g) (record {
      size = omega (arith, r.size);
      sides = (inl (count_is_inside h p q k ek), (s.0, r.sides));
      end = joined vs rest r l;
    })
  where
    later : (us : List Point) → Last (λ v. v ≡ h.to) (q ∷ us) → Last (λ v. v ≡ h.to) us
    later [] m = tt
    later (u ∷ us) m = m

    joined : (us rest : List Point) → AreRefined h (length us + length us) rest
        → Last (λ v. v ≡ h.to) (q ∷ us) → Last (λ v. v ≡ h.to) (q ∷ rest)
    joined us [] r m = none us r.size m
      where
        none : (us : List Point) → 0 ≡ length us + length us → Last (λ v. v ≡ h.to) (q ∷ us)
            → q ≡ h.to
        none [] z m = m
        none (u ∷ us) z m = absurd (omega (arith, z))
    joined us (w ∷ rest) r m = r.end

pub inner_are : (h : HalfArc) (n : ℕ) (vs : List Point) → inner_points h n ≡ Some vs
    → AreRefined h (2 ^ n) vs
unfolding inner_points
inner_are h zero vs e =
    subst (AreRefined h 1) (some_same _ _ e) (record {
      size = refl;
      sides = (inr refl, tt);
      end = refl;
    })
inner_are h (suc n) vs e =
    let (us, eu, f) = taken (inner_points h n) _ vs e in
    let r = inner_are h n us eu in
    let t = refined h h.from us vs f r.sides r.end in
    record { size = t.size ∙ twice (length us) n r.size; sides = t.sides; end = t.end }
  where
    twice : (a n : ℕ) → a ≡ 2 ^ n → a + a ≡ 2 ^ suc n
    twice a n e = omega (arith, e)

-- they are in the disk
pub inner_in_disk : (h : HalfArc) (n : ℕ) (vs : List Point) → inner_points h n ≡ Some vs
    → Each (IsInDisk h) vs
inner_in_disk h n vs e = each vs (inner_are h n vs e).sides
  where
    one : (v : Point) → IsInner h v → IsInDisk h v
    one v (inl k) = omega (arith, ints, k)
    one v (inr e) =
        let z = ap (λ v. power h (point v)) e in let t = power-to h in omega (arith, ints, z, t)

    each : (us : List Point) → Each (IsInner h) us → Each (IsInDisk h) us
    each [] k = tt
    each (u ∷ us) k = (one u k.0, each us k.1)

pub from_in_disk : (h : HalfArc) → IsInDisk h h.from
from_in_disk h = let t = power-from h in omega (arith, ints, t)

-- ---- the outer points
pub outer_size : (h : HalfArc) (p : Point) (vs os : List Point) → outer_points h p vs ≡ Some os
    → length os ≡ length vs
unfolding outer_points
outer_size h p [] os e = ap length (sym (some_same _ _ e))
outer_size h p (q ∷ vs) os e =
    let (k, ek, f) = taken (count h p q) _ os e in
    let (rest, er, g) = taken (outer_points h q vs) _ os f in
    let r = outer_size h q vs rest er in
    ap length (sym (some_same _ _ g)) ∙ ap suc r

-- ---- the bays
bays_size : (vs os : List Point) → length os ≡ length vs → length (bays vs os) ≡ length vs
bays_size [] os e = refl
bays_size (v ∷ vs) [] e = absurd (omega (arith, e))
bays_size (v ∷ vs) (o ∷ os) e = ap suc (bays_size vs os (omega (arith, e)))

bays_each : (P : Point → Type 0) (vs os : List Point) → Each P vs
    → Each (λ b. P b.inner) (bays vs os)
bays_each P [] os h = tt
bays_each P (v ∷ vs) [] h = tt
bays_each P (v ∷ vs) (o ∷ os) h = (h.0, bays_each P vs os h.1)

bays_both : (P : Point → Type 0) (vs os : List Point) → Each P vs → Each P os
    → Each (λ b. P b.outer × P b.inner) (bays vs os)
bays_both P [] os h k = tt
bays_both P (v ∷ vs) [] h k = tt
bays_both P (v ∷ vs) (o ∷ os) h k = ((k.0, h.0), bays_both P vs os h.1 k.1)

bays_last : (P : Point → Type 0) (vs os : List Point) → length os ≡ length vs → Last P vs
    → Last (λ b. P b.inner) (bays vs os)
bays_last P [] os e h = tt
bays_last P (v ∷ vs) [] e h = absurd (omega (arith, e))
bays_last P (v ∷ []) (o ∷ os) e h = h
bays_last P (v ∷ (u ∷ vs)) (o ∷ []) e h = absurd (omega (arith, e))
bays_last P (v ∷ (u ∷ vs)) (o ∷ (a ∷ os)) e h = bays_last P (u ∷ vs) (a ∷ os) (omega (arith, e)) h

some_bay : (bs : List Bay) → 0 < length bs → IsSome bs
some_bay [] l = absurd (omega (arith, l))
some_bay (b ∷ bs) l = tt

square_positive : (a : ℤ) → (a ≡ pos 0 → ⊥) → pos 0 <ℤ (a *ℤ a)
square_positive (pos zero) n = absurd (n refl)
square_positive (pos (suc a)) n = omega (arith, ints)
square_positive (negsuc a) n = omega (arith, ints)

pub power_positive : (k : ℕ) → 0 < 2 ^ k
power_positive zero = omega arith
power_positive (suc k) = let h = power_positive k in omega (arith, h)

-- ---- the tube
pub tube_count : (h : HalfArc) (level : ℕ) (inner outer : List Point) → IsTubeOf h level inner outer
    → length (bays inner outer) ≡ 2 ^ (level + 1)
tube_count h level inner outer t =
    bays_size inner outer (outer_size h h.from inner outer t.outer_made)
    ∙ (inner_are h (level + 1) inner t.inner_made).size

pub tube_is : (h : HalfArc) (level : ℕ) (inner outer : List Point) → IsTubeOf h level inner outer
    → IsTube h (bays inner outer)
tube_is h level inner outer t =
    let r = inner_are h (level + 1) inner t.inner_made in
    let n = outer_size h h.from inner outer t.outer_made in
    let m = tube_count h level inner outer t in
    record {
      circle = square_positive (bend h) t.circle.bent;
      facing = t.less;
      are_bays = t.are_bays;
      are_next = t.are_next;
      ends = bays_last (λ v. v ≡ h.to) inner outer n r.end;
      inside = bays_each (IsInner h) inner outer r.sides;
      first_clear = t.first_clear;
      last_clear = t.last_clear;
      some = some_bay (bays inner outer)
          (subst (λ (k : ℕ). 0 < k) (sym m) (power_positive (level + 1)));
    }

pub tube_near : (h : HalfArc) (level : ℕ) (inner outer : List Point) → IsTubeOf h level inner outer
    → Each (λ b. AreNear (2 ^ 28) h.from b.outer × AreNear (2 ^ 28) h.from b.inner)
    (bays inner outer)
tube_near h level inner outer t =
    bays_both (AreNear (2 ^ 28) h.from) inner outer t.inner_near t.outer_near

pub one_tube : (h : HalfArc) (level : ℕ) (inner outer inner_too outer_too : List Point)
    → IsTubeOf h level inner outer → IsTubeOf h level inner_too outer_too
    → (inner ≡ inner_too) × (outer ≡ outer_too)
one_tube h level inner outer inner_too outer_too t u =
    let e : inner ≡ inner_too = some_same _ _ (sym t.inner_made ∙ u.inner_made) in
    (e, some_same _ _ (sym t.outer_made ∙ ap (outer_points h h.from) e ∙ u.outer_made))
