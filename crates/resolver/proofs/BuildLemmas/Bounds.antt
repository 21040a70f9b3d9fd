-- Bounds of at most 18 digits.
use Rattle.std.proofs.Common.{◌≡◌, ℕ, ◌<◌, ◌^◌, false, ℤ, pos, negsuc, neg_ℤ, ◌<ℤ◌, arith, subst}
use Rattle.std.proofs.Common.{sym, ◌∙◌, FitsSigned, to_z, of_z, to_z-of_z}
use Rattle.std.specs.Int.{w64, w128}
use Rattle.std.proofs.lemmas.Int.{ints}
use Rattle.std.proofs.lemmas.Bool.{leb-false}
use borrow.Author.Differences.{fits_in}
use Rattle.ili_grammar.specs.Syntax.{Decimal}
use Rattle.resolver.specs.Numbers.{on_side_of, in_units, is_long, magnitude}

side_above : (z : ℤ) (m n : ℕ) → m < n → neg_ℤ (pos n) <ℤ on_side_of z m
side_above (pos k) m n lt = omega (arith, ints)
side_above (negsuc k) m n lt = omega (arith, ints)

side_below : (z : ℤ) (m n : ℕ) → m < n → on_side_of z m <ℤ pos n
side_below (pos k) m n lt = omega (arith, ints)
side_below (negsuc k) m n lt = omega (arith, ints)

pub in_units_above : (scale : ℕ) (d : Decimal) → is_long scale d ≡ false
    → neg_ℤ (pos (10 ^ 18)) <ℤ in_units scale d
in_units_above scale d e =
    side_above d.digits (magnitude scale d) (10 ^ 18) (leb-false (10 ^ 18) (magnitude scale d) e)

pub in_units_below : (scale : ℕ) (d : Decimal) → is_long scale d ≡ false
    → in_units scale d <ℤ pos (10 ^ 18)
in_units_below scale d e =
    side_below d.digits (magnitude scale d) (10 ^ 18) (leb-false (10 ^ 18) (magnitude scale d) e)

-- the bits of a number of at most 18 digits are its own
wide_back : (z : ℤ) → neg_ℤ (pos (10 ^ 18)) <ℤ z → z <ℤ pos (10 ^ 18) → to_z w128 (of_z w128 z) ≡ z
wide_back z a b = to_z-of_z (fits_in w128 z (omega (arith, ints, a, b)))

short_fits : (z : ℤ) → neg_ℤ (pos (10 ^ 18)) <ℤ z → z <ℤ pos (10 ^ 18)
    → FitsSigned w64 (to_z w128 (of_z w128 z))
short_fits z a b =
    subst (FitsSigned w64) (sym (wide_back z a b)) (fits_in w64 z (omega (arith, ints, a, b)))

short_back : (z : ℤ) → neg_ℤ (pos (10 ^ 18)) <ℤ z → z <ℤ pos (10 ^ 18)
    → to_z w64 (of_z w64 (to_z w128 (of_z w128 z))) ≡ z
short_back z a b = to_z-of_z (short_fits z a b) ∙ wide_back z a b

pub bound_fits : (scale : ℕ) (d : Decimal) (z : ℤ) → z ≡ in_units scale d → is_long scale d ≡ false
    → FitsSigned w64 (to_z w128 (of_z w128 z))
bound_fits scale d z e s =
    short_fits z (subst (λ (y : ℤ). neg_ℤ (pos (10 ^ 18)) <ℤ y) (sym e) (in_units_above scale d s))
    (subst (λ (y : ℤ). y <ℤ pos (10 ^ 18)) (sym e) (in_units_below scale d s))

pub bound_back : (scale : ℕ) (d : Decimal) (z : ℤ) → z ≡ in_units scale d → is_long scale d ≡ false
    → to_z w64 (of_z w64 (to_z w128 (of_z w128 z))) ≡ in_units scale d
bound_back scale d z e s =
    short_back z (subst (λ (y : ℤ). neg_ℤ (pos (10 ^ 18)) <ℤ y) (sym e) (in_units_above scale d s))
    (subst (λ (y : ℤ). y <ℤ pos (10 ^ 18)) (sym e) (in_units_below scale d s)) ∙ e
