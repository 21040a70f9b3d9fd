-- What `cmp` answers of numbers.
use Rattle.std.proofs.Common.{◌≡◌, ℕ, ◌<◌, ◌≤◌, ℤ, ◌<ℤ◌, false, refl, arith}
use Rattle.std.proofs.lemmas.Int.{ints}
use Rattle.std.specs.Ordering.{is_lt, int_cmp, nat_cmp, MatchOrdering}
use Rattle.std.specs.declared.cmp.Ordering.{Ordering}
use Rattle.std.specs.declared.cmp.Ordering.TheVariants.{Less, Equal, Greater}
use Rattle.std.specs.Cmp.{ranks, int_ranks}

pub int_less : (x y : ℤ) → x <ℤ y → int_cmp x y ≡ Less
int_less x y h = by_rank (int_cmp x y) (int_ranks x y)
  where
    by_rank : (o : Ordering) → MatchOrdering o (x <ℤ y) (x ≡ y) (y <ℤ x) → o ≡ Less
    by_rank Less r = refl
    by_rank Equal r = absurd (omega (arith, ints, h, r))
    by_rank Greater r = absurd (omega (arith, ints, h, r))

pub int_equal : (x y : ℤ) → x ≡ y → int_cmp x y ≡ Equal
int_equal x y h = by_rank (int_cmp x y) (int_ranks x y)
  where
    by_rank : (o : Ordering) → MatchOrdering o (x <ℤ y) (x ≡ y) (y <ℤ x) → o ≡ Equal
    by_rank Less r = absurd (omega (arith, ints, h, r))
    by_rank Equal r = refl
    by_rank Greater r = absurd (omega (arith, ints, h, r))

pub int_greater : (x y : ℤ) → y <ℤ x → int_cmp x y ≡ Greater
int_greater x y h = by_rank (int_cmp x y) (int_ranks x y)
  where
    by_rank : (o : Ordering) → MatchOrdering o (x <ℤ y) (x ≡ y) (y <ℤ x) → o ≡ Greater
    by_rank Less r = absurd (omega (arith, ints, h, r))
    by_rank Equal r = absurd (omega (arith, ints, h, r))
    by_rank Greater r = refl

pub nat_least : (x y : ℕ) → y ≤ x → is_lt (nat_cmp x y) ≡ false
nat_least x y h = by_rank (nat_cmp x y) (ranks x y)
  where
    by_rank : (o : Ordering) → MatchOrdering o (x < y) (x ≡ y) (y < x) → is_lt o ≡ false
    by_rank Less r = absurd (omega (arith, h, r))
    by_rank Equal r = refl
    by_rank Greater r = refl

pub nat_not_less : (x y : ℕ) → is_lt (nat_cmp x y) ≡ false → y ≤ x
nat_not_less x y h = by_rank (nat_cmp x y) (ranks x y) h
  where
    by_rank : (o : Ordering) → MatchOrdering o (x < y) (x ≡ y) (y < x) → is_lt o ≡ false → y ≤ x
    by_rank Less r q = cc
    by_rank Equal r q = omega (arith, r)
    by_rank Greater r q = omega (arith, r)

pub by_lt : {P : Type 0} (x y : ℕ) → (x < y → P) → (y ≤ x → P) → P
by_lt {P = P} x y f g = by_rank (nat_cmp x y) (ranks x y)
  where
    by_rank : (o : Ordering) → MatchOrdering o (x < y) (x ≡ y) (y < x) → P
    by_rank Less r = f r
    by_rank Equal r = g (omega (arith, r))
    by_rank Greater r = g (omega (arith, r))
