-- Numbers without a point.
use Rattle.std.specs.Prelude.{ℕ, ◌^◌, Bool, List, nat_lt, ◌==◌, if◌then◌else◌, Result, Ok, Err, ℤ}
use Rattle.std.specs.List.{list_any}
use Rattle.decimals.specs.Numerals.{is_digits, number, sign_of, after_sign}
use Rattle.decimals.specs.Scaled.{signed}
use Rattle.decimals.specs.declared.DecimalFault.{DecimalFault}
use Rattle.decimals.specs.declared.DecimalFault.TheVariants.{NotNumber, TooLong}

-- a point stands in the text
abbrev pub holds_point : List ℕ → Bool
holds_point bytes = list_any (λ c. c == 46) bytes

-- an optional sign and digits, of at most 18 without zeros in front
abbrev pub whole_number_of : List ℕ → Result ℤ DecimalFault
whole_number_of bytes =
    signed (sign_of bytes)
    (if is_digits (after_sign bytes)
    then (if nat_lt (number (after_sign bytes)) (10 ^ 18)
    then Ok (number (after_sign bytes))
    else Err TooLong)
    else Err NotNumber)
