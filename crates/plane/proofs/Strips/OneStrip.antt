-- Each place has exactly one strip, and linked cells are an equivalence.
-- A segment that hits no edge has linked cells at its ends.
use Rattle.std.proofs.Common.{◌≡◌, ℕ, zero, suc, ◌+◌, ◌<◌, ◌≤◌, Bool, true, false, cond, ◌*ℤ◌, ◌-ℤ◌}
use Rattle.std.proofs.Common.{◌<ℤ◌, ◌≤ℤ◌, refl, arith, ap, sym, ◌∙◌, subst}
use Rattle.std.proofs.lemmas.Int.{ints, by_lt_z}
use Rattle.plane.specs.Forms.Vectors.{Vector, Place, sweep}
use Rattle.plane.specs.Faces.Replays.{Replay, reach}
use Rattle.plane.proofs.Runs.RunWords.{IsRun, IsLawful, IsStrip}
use Rattle.plane.specs.Faces.Cells.{is_positive, passed, strip, Sector, sector, Opens, Linked}
use Rattle.plane.specs.Faces.Cells.{stays, onward, back, IsFree}
use Rattle.plane.proofs.Strips.CountBelow.{positive_is, not_positive}
use Rattle.plane.proofs.Strips.ToTheRight.{free_back, linked_right, scaled_rising}

-- ---- linked cells
pub linked_join : (r : Replay) (c d e : Sector) → Linked r c d → Linked r d e → Linked r c e
linked_join r _ _ e (stays c d h) k = subst (λ (x : Sector). Linked r x e) (sym h) k
linked_join r _ _ e (onward c x d o l) k = onward c x e o (linked_join r x d e l k)
linked_join r _ _ e (back c x d o l) k = back c x e o (linked_join r x d e l k)

pub linked_back : (r : Replay) (c d : Sector) → Linked r c d → Linked r d c
linked_back r _ _ (stays c d h) = stays d c (sym h)
linked_back r _ _ (onward c x d o l) =
    linked_join r d x c (linked_back r x d l) (back x c c o (stays c c refl))
linked_back r _ _ (back c x d o l) =
    linked_join r d x c (linked_back r x d l) (onward x c c o (stays c c refl))

-- what is kept where cells open to each other is kept by linked cells
pub linked_keeps : {X : Type 0} (r : Replay) (f : Sector → X)
    → ((c d : Sector) → Opens r c d → f c ≡ f d) → (c d : Sector) → Linked r c d → f c ≡ f d
linked_keeps r f k _ _ (stays c d h) = ap f h
linked_keeps r f k _ _ (onward c x d o l) = k c x o ∙ linked_keeps r f k x d l
linked_keeps r f k _ _ (back c x d o l) = sym (k x c o) ∙ linked_keeps r f k x d l

-- ---- the strip
-- m of the first k events have a sweep value at most that of z: the first m
record IsPassed (r : Replay) (z : Vector) (k m : ℕ) : Type 0 where
  most : m ≤ k
  from : (j : ℕ) → j < m → (reach r j *ℤ z.n) ≤ℤ sweep r.weight z
  to : (j : ℕ) → m ≤ j → j < k → sweep r.weight z <ℤ (reach r j *ℤ z.n)

pub by_last : {P : Type 0} (j k : ℕ) → j < suc k → (j < k → P) → (j ≡ k → P) → P
by_last zero zero h below here = here refl
by_last zero (suc k) h below here = below (omega arith)
by_last (suc j) zero h below here = absurd (omega arith)
by_last (suc j) (suc k) h below here =
    by_last j k (omega arith) (λ l. below (omega arith)) (λ e. here (ap (λ (n : ℕ). suc n) e))

module _ (r : Replay) (run : IsRun r) where
  not_yet : (z : Vector) (k m : ℕ) → IsPassed r z k m → sweep r.weight z <ℤ (reach r k *ℤ z.n)
      → IsPassed r z (suc k) m
  not_yet z k m b l = record {
    most = (let n = b.most in omega arith);
    from = b.from;
    to = λ (j : ℕ) (a : m ≤ j) (c : j < suc k). by_last j k c (λ (n : j < k). b.to j a n)
        (λ (e : j ≡ k). subst (λ (i : ℕ). sweep r.weight z <ℤ (reach r i *ℤ z.n)) (sym e) l);
  }

  already : (z : Vector) (k m : ℕ) → Place z → k < r.steps → IsPassed r z k m
      → (reach r k *ℤ z.n) ≤ℤ sweep r.weight z → IsPassed r z (suc k) (suc m)
  already z k m Z h b l = by_last m k (let n = b.most in omega arith)
      (λ (n : m < k).
      let s = scaled_rising r run m k z.n Z n h in
      let t = b.to m (omega arith) n in
      absurd (omega (arith, ints, s, t, l)))
      (λ (e : m ≡ k). record {
        most = omega arith;
        from = λ (j : ℕ) (c : j < suc m). by_last j m c (λ (n : j < m). b.from j n)
            (λ (f : j ≡ m). subst (λ (i : ℕ). (reach r i *ℤ z.n) ≤ℤ sweep r.weight z)
            (sym (f ∙ e)) l);
        to = λ (j : ℕ) (a : suc m ≤ j) (c : j < suc k). absurd (omega arith);
      })

  passed_is : (z : Vector) → Place z → (k : ℕ) → k ≤ r.steps → IsPassed r z k (passed r z k)
  passed_is z Z zero h = record {
    most = omega arith;
    from = λ (j : ℕ) (l : j < 0). absurd (omega arith);
    to = λ (j : ℕ) (l : 0 ≤ j) (m : j < 0). absurd (omega arith);
  }
  passed_is z Z (suc k) h =
      let b = passed_is z Z k (omega arith) in
      by_lt_z (sweep r.weight z) (reach r k *ℤ z.n)
      (λ (l : sweep r.weight z <ℤ (reach r k *ℤ z.n)).
      let t : is_positive ((reach r k *ℤ z.n) -ℤ sweep r.weight z)
      ≡ true = positive_is _ (omega (arith, ints)) in
      subst (λ (b : Bool). IsPassed r z (suc k) (cond b (passed r z k) (suc (passed r z k))))
      (sym t) (not_yet z k (passed r z k) b l))
      (λ (l : (reach r k *ℤ z.n) ≤ℤ sweep r.weight z).
      let t : is_positive ((reach r k *ℤ z.n) -ℤ sweep r.weight z)
      ≡ false = not_positive _ (omega (arith, ints)) in
      subst (λ (b : Bool). IsPassed r z (suc k) (cond b (passed r z k) (suc (passed r z k))))
      (sym t) (already z k (passed r z k) Z (omega arith) b l))

  -- each place has a strip
  pub strip_is : (z : Vector) → Place z → IsStrip r (strip r z) z
  strip_is z Z =
      let b = passed_is z Z r.steps (omega arith) in
      record { fits = b.most; from = b.from; to = b.to }

  -- and no other
  pub strip_only : (k m : ℕ) (z : Vector) → IsStrip r k z → IsStrip r m z → k ≡ m
  strip_only k m z a b = by_last k (suc m) (not_above k m a b)
      (λ (l : k < suc m). by_last k m l (λ (n : k < m). let f = b.from k n in
      let g = a.to k (omega arith) (let x = b.fits in omega arith) in
      absurd (omega (arith, ints, f, g))) (λ e. e))
      (λ (e : k ≡ suc m). let f = a.from m (omega arith) in
      let g = b.to m (omega arith) (let x = a.fits in omega arith) in
      absurd (omega (arith, ints, f, g)))
    where
      not_above : (k m : ℕ) → IsStrip r k z → IsStrip r m z → k < suc (suc m)
      not_above k m a b = either m k
          (λ (l : suc m < k). let f = a.from m (omega arith) in
          let g = b.to m (omega arith) (let x = a.fits in omega arith) in
          absurd (omega (arith, ints, f, g)))
          (λ (l : k ≤ suc m). omega arith)
        where
          either : {P : Type 0} (m k : ℕ) → (suc m < k → P) → (k ≤ suc m → P) → P
          either m zero f g = g (omega arith)
          either zero (suc zero) f g = g (omega arith)
          either zero (suc (suc k)) f g = f (omega arith)
          either (suc m) (suc k) f g = either m k (λ l. f (omega arith)) (λ l. g (omega arith))

pub by_order : {P : Type 0} (k m : ℕ) → ((d : ℕ) → m ≡ k + d → P) → ((d : ℕ) → k ≡ m + d → P) → P
by_order zero m f g = f m (omega arith)
by_order (suc k) zero f g = g (suc k) (omega arith)
by_order (suc k) (suc m) f g = by_order k m (λ d e. f d (omega arith)) (λ d e. g d (omega arith))

module _ (r : Replay) (run : IsRun r) (law : IsLawful r) where
  -- a segment that hits no edge has linked cells at its ends
  pub segment_linked : (p q : Vector) → Place p → Place q → IsFree r p q
      → Linked r (sector r p) (sector r q)
  segment_linked p q P Q free = by_order (strip r p) (strip r q)
      (λ (d : ℕ) (e : strip r q ≡ strip r p + d). linked_right r run law d (strip r p)
      (strip r q) p q e P Q free (strip_is r run p P) (strip_is r run q Q))
      (λ (d : ℕ) (e : strip r p ≡ strip r q + d). linked_back r _ _
      (linked_right r run law d (strip r q) (strip r p) q p e Q P (free_back r p q P Q free)
      (strip_is r run q Q) (strip_is r run p P)))
