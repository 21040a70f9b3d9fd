-- Bounds that break no rule are kept exactly.
use Rattle.std.proofs.Common.{◌≡◌, ℕ, ◌-◌, ◌*◌, ◌/◌, ◌^◌, ◌≤◌, Bool, true, false, cond, ◌||◌, ◌&&◌}
use Rattle.std.proofs.Common.{◌==◌, ℤ, pos, negsuc, ◌*ℤ◌, ◌≤ℤ◌, int_lt, int_le, unsigned_abs, refl}
use Rattle.std.proofs.Common.{ap, sym, ◌∙◌, subst, arith, true≢false}
use Rattle.std.proofs.lemmas.Int.{ints}
use Rattle.ili_grammar.specs.Syntax.{Decimal, Span}
use Rattle.resolver.specs.Numbers.{on_side_of, in_units, is_long, is_reversed, has_long_bound}
use Rattle.resolver.specs.Numbers.{is_text_length}
use Rattle.resolver.specs.Models.{no_limits, limits, text_length}
use Rattle.resolver.specs.Standing.{HasFewDigits, IsBound, AreLimits, IsLength}
use Rattle.resolver.proofs.SoundLemmas.NoFault.{or-left_false, or-right_false}
use Rattle.resolver.proofs.BuildLemmas.Bounds.{in_units_above, in_units_below}

pub few_digits : (scale : ℕ) (d : Decimal) → is_long scale d ≡ false
    → HasFewDigits (in_units scale d)
few_digits scale d e = record { above = in_units_above scale d e; below = in_units_below scale d e }

-- a product has the sign of its first factor
sided : (z : ℤ) (p : ℕ) → on_side_of z (unsigned_abs z * p) ≡ (z *ℤ pos p)
sided (pos n) p = refl
sided (negsuc n) p = refl

whole : (m q : ℕ) → q ≡ 0 → m / 10 ^ q ≡ m
whole m q e = ap (λ (k : ℕ). m / 10 ^ k) e ∙ omega arith

pub exact : (scale : ℕ) (d : Decimal) → d.scale ≤ scale
    → in_units scale d ≡ (d.digits *ℤ pos (10 ^ (scale - d.scale)))
exact scale d le =
    ap (on_side_of d.digits)
    (whole (unsigned_abs d.digits * 10 ^ (scale - d.scale)) (d.scale - scale) (omega (arith, le)))
    ∙ sided d.digits (10 ^ (scale - d.scale))

bound : (scale : ℕ) (d : Decimal) → d.scale ≤ scale → is_long scale d ≡ false
    → IsBound scale d (in_units scale d)
bound scale d le e = record {
  decimals = le;
  value = exact scale d le;
  digits = few_digits scale d e;
}

ordered : (low high : ℤ) → int_lt high low ≡ false → low ≤ℤ high
ordered low high e = grind (arith, ints, e)

pub limits_kept : (scale : ℕ) (s : Span) → s.low.scale ≤ scale → s.high.scale ≤ scale
    → is_reversed scale s ≡ false → has_long_bound scale s ≡ false
    → AreLimits scale s (limits scale s)
limits_kept scale s low high r l =
    let kept : limits scale s ≡ record {
      low = in_units scale s.low;
      high = in_units scale s.high;
      scale = scale;
    } =
    ap (λ (b : Bool). cond (b || has_long_bound scale s) no_limits
    (record { low = in_units scale s.low; high = in_units scale s.high; scale = scale })) r
    ∙ ap (λ (b : Bool). cond b no_limits (record {
      low = in_units scale s.low;
      high = in_units scale s.high;
      scale = scale;
    })) l in
    subst (AreLimits scale s) (sym kept) (record {
      low = bound scale s.low low (or-left_false (is_long scale s.low) (is_long scale s.high) l);
      high = bound scale s.high high
          (or-right_false (is_long scale s.low) (is_long scale s.high) l);
      ordered = ordered (in_units scale s.low) (in_units scale s.high) r;
      decimals = refl;
    })

both : (a b : Bool) → (a && b) ≡ true → (a ≡ true) × (b ≡ true)
both true b e = (refl, e)
both false b e = absurd (true≢false (sym e))

-- a whole number from 1 to 65,535
length_kept_at : (d : Decimal) (z : ℤ) → d.digits ≡ z → (d.scale == 0) ≡ true
    → int_le (pos 1) z ≡ true → int_le z (pos 65535) ≡ true → IsLength d (unsigned_abs z)
length_kept_at d (pos n) e w low high =
    record {
      whole = grind (arith, w);
      value = e;
      some = grind (arith, ints, low);
      few = grind (arith, ints, high);
    }
length_kept_at d (negsuc n) e w low high = absurd (true≢false (sym low))

pub length_kept : (d : Decimal) → is_text_length d ≡ true → IsLength d (text_length d)
length_kept d e =
    let w = both (d.scale == 0) (int_le (pos 1) d.digits && int_le d.digits (pos 65535)) e in
    let b = both (int_le (pos 1) d.digits) (int_le d.digits (pos 65535)) w.1 in
    subst (IsLength d) (sym (ap (λ (t : Bool). cond t (unsigned_abs d.digits) 0) e))
    (length_kept_at d d.digits refl w.0 b.0 b.1)
