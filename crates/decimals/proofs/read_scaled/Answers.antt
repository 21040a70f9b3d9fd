use Rattle.std.proofs.Common.{rules, ◌≡◌, Ok, Err, sym, ◌∙◌, ap, ℤ, FitsSigned, to_z, of_z, w64}
use Rattle.std.proofs.Common.{to_z-of_z}
use Rattle.decimals.specs.Scaled.{unsigned_of, scaled_of, with_sign}
use Rattle.decimals.specs.Numerals.{sign_of, after_sign}
use Rattle.decimals.proofs.Signs.{scaled_fault, scaled_value, signed_is}
use Rattle.decimals.proofs.Laws.{value_exactly, not_number_exactly, too_long_exactly}
use Rattle.decimals.proofs.Laws.{more_decimals_exactly}
use Rattle.decimals.proofs.read_scaled.Goals as goal

pub returns-in_err-magnitude : goal.returns-in_err-magnitude
returns-in_err-magnitude c =
    let bytes = c.args.bytes.now in
    let scale = c.args.scale in
    let u : unsigned_of scale (after_sign bytes)
    ≡ Err c.in_err-magnitude.field-0.0 =
    rw (← c.split_sign-negative.ensures.rest) (sym c.read_unsigned.ensures.reading
    ∙ c.in_err-magnitude.was) in
    let e = scaled_fault bytes scale _ u in
    let a : c.from_residual.result ≡ scaled_of bytes scale = search (rules, sym e) in
    record {
      answer = a;
      value = value_exactly bytes scale _ a;
      not_number = not_number_exactly bytes scale _ a;
      too_long = too_long_exactly bytes scale _ a;
      more_decimals = more_decimals_exactly bytes scale _ a;
    }

pub returns : goal.returns
returns c =
    let bytes = c.args.bytes.now in
    let scale = c.args.scale in
    let f : FitsSigned w64 c.with_sign.result = search rules in
    let u : unsigned_of scale (after_sign bytes)
    ≡ Ok c.in_ok-magnitude.magnitude =
    rw (← c.split_sign-negative.ensures.rest) (sym c.read_unsigned.ensures.reading
    ∙ c.in_ok-magnitude.was) in
    let m = signed_is (sign_of bytes) c.split_sign-negative.result.0 c.in_ok-magnitude.magnitude
    c.split_sign-negative.ensures.negative in
    let v : c.with_sign.result ≡ with_sign
    (sign_of bytes) c.in_ok-magnitude.magnitude = c.with_sign.ensures ∙ sym m in
    let a : Ok (to_z w64 (of_z w64 c.with_sign.result))
    ≡ scaled_of bytes scale = ap (λ (z : ℤ). Ok z) (to_z-of_z f ∙ v)
    ∙ sym (scaled_value bytes scale c.in_ok-magnitude.magnitude u) in
    record {
      answer = a;
      value = value_exactly bytes scale _ a;
      not_number = not_number_exactly bytes scale _ a;
      too_long = too_long_exactly bytes scale _ a;
      more_decimals = more_decimals_exactly bytes scale _ a;
    }
