use Rattle.std.proofs.Common.{arith, ◌∙◌, ℕ, ℤ, length, ◌≤◌, ◌/◌, ◌^◌, decimal, ◌-◌, ◌≡◌, ap}
use Rattle.std.proofs.Common.{to_z-of_z, unsigned_abs}
use Rattle.decimals.proofs.Places.{drop_later}
use Rattle.decimals.proofs.WrittenParts.{power_positive, sign_short, whole_short, decimals_short}
use Rattle.decimals.specs.Numerals.{sign_bytes}
use Rattle.decimals.specs.Written.{written_sign}
use Rattle.decimals.proofs.writing.write_scaled.Goals as goal

pub nonzero_div-magnitude : goal.nonzero_div-magnitude
nonzero_div-magnitude c = rw (c.pow-unit.ensures) (power_positive c.from.result)

pub nonzero_rem-magnitude : goal.nonzero_rem-magnitude
nonzero_rem-magnitude c = rw (c.pow-unit.ensures) (power_positive c.from.result)

pub put_padded-requires-clause-room : goal.put_padded-requires-clause-room
put_padded-requires-clause-room c =
    let scale = c.args.scale in
    let m = c.unsigned_abs-magnitude.result in
    let em : m ≡ unsigned_abs c.args.value = c.unsigned_abs-magnitude.ensures.value
    ∙ ap unsigned_abs (to_z-of_z c.ranges.value) in
    let eu : c.pow-unit.result ≡ 10 ^ scale = c.pow-unit.ensures
    ∙ ap (λ (n : ℕ). 10 ^ n) c.from.ensures in
    let es : c.sign_text.result.now ≡ sign_bytes (written_sign c.args.value) = c.sign_text.ensures
    ∙ ap (λ (z : ℤ). sign_bytes (written_sign z)) (to_z-of_z c.ranges.value) in
    let ew : c.as_bytes.result.now ≡ decimal (m / 10 ^ scale) = c.as_bytes.ensures.value
    ∙ c.format.ensures.text ∙ ap (λ (n : ℕ). decimal (m / n)) eu in
    let s : length c.sign_text.result.now ≤ 1 = rw es (sign_short c.args.value) in
    let w : length c.as_bytes.result.now ≤ 18
    - scale = rw ew (whole_short m scale (rw em c.requires.digits) c.requires.scale) in
    omega (
      arith,
      s,
      w,
      c.requires.scale,
      c.from-2.ensures,
      c.put-point.ensures.end,
      c.put-whole.ensures.end,
      c.put-signed.ensures.end,
      c.put-point.ensures.len,
      c.put-whole.ensures.len,
      c.put-signed.ensures.len,
    )

pub put_padded-requires-clause-fits : goal.put_padded-requires-clause-fits
put_padded-requires-clause-fits c =
    let scale = c.args.scale in
    let m = c.unsigned_abs-magnitude.result in
    let em : m ≡ unsigned_abs c.args.value = c.unsigned_abs-magnitude.ensures.value
    ∙ ap unsigned_abs (to_z-of_z c.ranges.value) in
    let eu : c.pow-unit.result ≡ 10 ^ scale = c.pow-unit.ensures
    ∙ ap (λ (n : ℕ). 10 ^ n) c.from.ensures in
    rw (eu, c.from-2.ensures) (
      decimals_short m scale (rw em c.requires.digits) (omega arith),
      c.requires.scale,
    )

pub returns-clause-rest : goal.returns-clause-rest
returns-clause-rest c =
    let end = c.put_padded.result in
    let a = drop_later c.put-point.result end c.put-point.new.into c.put-whole.new.into
    (omega arith) c.put-point.ensures.rest in
    let b = drop_later c.put-whole.result end c.put-whole.new.into c.put-signed.new.into
    (omega arith) c.put-whole.ensures.rest in
    let d = drop_later c.put-signed.result end c.put-signed.new.into c.args.into.now
    (omega arith) c.put-signed.ensures.rest in
    c.put_padded.ensures.rest ∙ a ∙ b ∙ d
