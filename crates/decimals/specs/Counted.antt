-- What the steps of the reading give.
use Rattle.std.specs.Prelude.{ℕ, ◌+◌, ◌*◌, ◌^◌, ◌&&◌, min, List, length, nat_lt, ◌==◌}
use Rattle.std.specs.Prelude.{if◌then◌else◌, Result, Ok, Err}
use Rattle.std.specs.Str.{all_ascii_digits}
use Rattle.decimals.specs.Numerals.{number, is_digits}
use Rattle.decimals.specs.Scaled.{measured}
use Rattle.decimals.specs.declared.DecimalFault.{DecimalFault}
use Rattle.decimals.specs.declared.DecimalFault.TheVariants.{NotNumber, TooLong, MoreDecimals}

-- the number that the digits of `from` and then these write, at most 10^18
abbrev pub counted : ℕ → List ℕ → Result ℕ DecimalFault
counted from digits =
    if all_ascii_digits digits
    then Ok (min (from * 10 ^ length digits + number digits) (10 ^ 18))
    else Err NotNumber

-- the magnitude of digits before a point and decimals after it
abbrev pub parts_of : ℕ → List ℕ → List ℕ → Result ℕ DecimalFault
parts_of scale whole decimals =
    if is_digits whole && all_ascii_digits decimals
    then measured scale whole decimals
    else Err NotNumber

-- the magnitude again, or why it is none, where the decimals past the scale write this number
abbrev pub settled : ℕ → ℕ → Result ℕ DecimalFault
settled magnitude past =
    if nat_lt magnitude (10 ^ 18)
    then (if past == 0 then Ok magnitude else Err MoreDecimals)
    else Err TooLong
