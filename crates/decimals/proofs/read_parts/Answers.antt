use Rattle.std.proofs.Common.{rules, ◌≡◌, ◌-◌, ◌*◌, ◌^◌, ◌<◌, min, length, take, drop, Ok, arith}
use Rattle.std.proofs.Common.{sym, ◌∙◌, refl}
use Rattle.std.proofs.lemmas.Bool.Decides.{nat_tests}
use Rattle.decimals.specs.Counted.{counted}
use Rattle.decimals.proofs.Parts.{no_kept, no_surplus, parts_value}
use Rattle.decimals.proofs.read_parts.Goals as goal

pub returns-in_err-digits : goal.returns-in_err-digits
returns-in_err-digits c =
    let n = c.min.result in
    let r : c.read_digits-2.result ≡ counted c.in_ok-read_digits.field-0
    (take n c.args.decimals.now) = rw (← c.split_at.ensures.front) c.read_digits-2.ensures in
    let e = no_kept c.args.scale n c.in_ok-read_digits.field-0 c.args.whole.now c.args.decimals.now
    c.in_err-digits.field-0.0 (sym r ∙ c.in_err-digits.was) in
    search (rules, sym e)

pub returns-in_err-past : goal.returns-in_err-past
returns-in_err-past c =
    let n = c.min.result in
    let r : c.read_digits-3.result ≡ counted 0 (drop n c.args.decimals.now) = rw
    (← c.split_at.ensures.back) c.read_digits-3.ensures in
    let e = no_surplus c.args.scale n 0 c.args.whole.now c.args.decimals.now c.in_err-past.field-0.0
    (sym r ∙ c.in_err-past.was) in
    search (rules, sym e)

pub returns : goal.returns
returns c =
    let n = c.min.result in
    let whole = c.args.whole.now in
    let decimals = c.args.decimals.now in
    let l : 0 < length whole = grind (arith, nat_tests) in
    let e : n ≡ min (length decimals) c.args.scale = omega arith in
    let h : counted 0 whole ≡ Ok c.in_ok-read_digits.field-0 = sym c.read_digits.ensures
    ∙ c.in_ok-read_digits.was in
    let k : counted c.in_ok-read_digits.field-0 (take n decimals)
    ≡ Ok c.in_ok-digits.digits =
    rw (← c.split_at.ensures.front) (sym c.read_digits-2.ensures ∙ c.in_ok-digits.was) in
    let q : counted 0 (drop n decimals)
    ≡ Ok c.in_ok-past.past =
    rw (← c.split_at.ensures.back) (sym c.read_digits-3.ensures ∙ c.in_ok-past.was) in
    let v : c.saturating_mul.result ≡ min (c.in_ok-digits.digits * 10 ^ (c.args.scale - n))
    (2 ^ 64 - 1) =
    rw (c.saturating_mul.ensures, c.pow.ensures, c.from-2.ensures, c.split_at.ensures.front_len)
    refl in
    c.within_limits.ensures ∙ sym (parts_value c.args.scale n _ _ _ _ whole decimals l e h k q v)
