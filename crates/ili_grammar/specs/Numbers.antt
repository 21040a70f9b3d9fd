-- What the bytes of a number, a Hex and a name stand for.
use Rattle.std.specs.Prelude.{ℕ, ◌+◌, ◌-◌, ◌*◌, ℤ, pos, neg_ℤ, List, [], ◌∷◌, length, drop, Bool}
use Rattle.std.specs.Prelude.{false, cond, ◌&&◌, ◌||◌, nat_eq, nat_le, if◌then◌else◌, count_by}
use Rattle.std.specs.Prelude.{codes, Option, Some, None}
use Rattle.std.specs.List.{starts_with}
use Rattle.std.specs.Char.{is_ascii_digit}
use Rattle.ili_grammar.specs.Tokens.{Info}
use Rattle.ili_grammar.specs.Syntax.{Ident, Decimal}

-- a number from the low to the high one
abbrev pub between : ℕ → ℕ → ℕ → Bool
between low high n = nat_le low n && nat_le n high

-- the digits read as one number; a sign and a full stop are passed over
abbrev pub read_from : ℕ → List ℕ → ℕ
read_from n [] = n
read_from n (b ∷ bs) = read_from (cond (between 48 57 b) ((n * 10) + (b - 48)) n) bs

-- the number with its sign, without its full stop
abbrev pub signed : List ℕ → ℤ
signed bs =
    if starts_with nat_eq bs (codes "-") then neg_ℤ (pos (read_from 0 bs)) else pos (read_from 0 bs)

-- the number of digits after the full stop
abbrev pub decimals : List ℕ → ℕ
decimals [] = 0
decimals (b ∷ bs) = cond (nat_eq b 46) (length bs) (decimals bs)

-- the byte is among the bytes
abbrev pub has : ℕ → List ℕ → Bool
has n [] = false
has n (b ∷ bs) = nat_eq b n || has n bs

-- a byte from 33 to 126, none where it is another number
abbrev pub in_range : ℕ → Option ℕ
in_range n = cond (between 33 126 n) (Some n) None

-- the byte that a number stands for: whole, which is without a full stop, and from 33 to 126
abbrev pub whole_code : List ℕ → Option ℕ
whole_code bs = cond (has 45 bs || has 46 bs) None (in_range (read_from 0 bs))

-- the value of a hexadecimal digit
abbrev pub hex_digit : ℕ → ℕ
hex_digit b = cond (between 48 57 b) (b - 48) (cond (between 65 70 b) (b - 55) (b - 87))

-- the number that hexadecimal digits write, after n before them
abbrev pub read_hex : ℕ → List ℕ → ℕ
read_hex n [] = n
read_hex n (b ∷ bs) = read_hex ((n * 16) + hex_digit b) bs

-- the byte that a Hex stands for, after its '0x'
abbrev pub hex_code : List ℕ → Option ℕ
hex_code bs = in_range (read_hex 0 (drop 2 bs))

-- the name that a token writes
abbrev pub ident : Info → Ident
ident i = record { text = i.text; line = i.line; column = i.column }

-- the number that a token writes
abbrev pub decimal : Info → Decimal
decimal i =
    record { digits = signed i.text; scale = decimals i.text; line = i.line; column = i.column }

-- at most 18 digits, and at most 9 after the full stop
abbrev pub is_short : List ℕ → Bool
is_short bs = nat_le (count_by is_ascii_digit bs) 18 && nat_le (decimals bs) 9
