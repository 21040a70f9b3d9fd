-- What stands at the front of a text: the longest token there is, bytes between tokens, or a fault.
use Rattle.std.specs.Prelude.{ℕ, ◌+◌, ◌<◌, ◌≤◌, ⊤, List, [], ◌∷◌, take, drop, Bool, ◌||◌, ◌==◌}
use Rattle.std.specs.Prelude.{nat_eq, nat_lt, if◌then◌else◌, Option, Some, None, codes}
use Rattle.std.specs.List.{prefix_len, starts_with}
use Rattle.std.specs.Option.{option_map, option_map_or}
use Rattle.std.specs.Char.{is_ascii_alphabetic, is_ascii_digit, is_ascii_hexdigit}
use Rattle.ili_lexer.specs.declared.fronts.Front.{Front}
use Rattle.ili_lexer.specs.declared.fronts.Front.TheVariants.{End, Passed, Token, BadByte}
use Rattle.ili_lexer.specs.declared.fronts.Front.TheVariants.{OpenExplanation, LongNumber}
use Rattle.ili_lexer.specs.declared.tokens.Kind.{Kind}
use Rattle.ili_lexer.specs.declared.tokens.Kind.TheVariants as kind
use Rattle.ili_lexer.specs.declared.tokens.Mark.{Mark}
use Rattle.ili_lexer.specs.declared.tokens.Mark.TheVariants.{Semicolon, Colon, Comma, Equals}
use Rattle.ili_lexer.specs.declared.tokens.Mark.TheVariants.{LeftParen, RightParen, LeftBracket}
use Rattle.ili_lexer.specs.declared.tokens.Mark.TheVariants.{RightBracket, Star, Greater, Period}
use Rattle.ili_lexer.specs.declared.tokens.Mark.TheVariants.{TwoPeriods, Arrow}
use Rattle.ili_lexer.specs.Bytes.{is_blank, is_name_byte, is_inside_line}
use Rattle.ili_lexer.specs.Keywords.{keyword_of}

-- the text begins with the word
abbrev pub begins : List ℕ → List ℕ → Bool
begins text word = starts_with nat_eq text word

-- an explanation: the number of bytes up to the first `//` and with it
abbrev pub closing : List ℕ → Option ℕ
closing [] = None
closing (b ∷ bs) =
    if begins (b ∷ bs) (codes "//") then Some 2 else option_map (λ n. 1 + n) (closing bs)

-- `//`, any bytes, and the next `//`
abbrev pub explanation_front : List ℕ → Front
explanation_front text =
    option_map_or (λ n. Token kind.Explanation (2 + n)) (closing (drop 2 text)) OpenExplanation

-- `0x`, one or two hexadecimal digits
abbrev pub hex_front : List ℕ → Front
hex_front text =
    let digits = prefix_len is_ascii_hexdigit (drop 2 text) in
    if digits == 0 then BadByte else Token kind.Hex (if digits == 1 then 3 else 4)

-- the kind of a word: a keyword, or else a name
abbrev pub kind_of_word : List ℕ → Kind
kind_of_word word = option_map_or (λ k. kind.Keyword k) (keyword_of word) kind.Name

-- letters, digits and `_`
abbrev pub word_front : List ℕ → Front
word_front text =
    let n = prefix_len is_name_byte text in
    Token (kind_of_word (take n text)) n

abbrev pub byte_mark : ℕ → Option Mark
byte_mark b =
    if b == 59 then Some Semicolon
    else if b == 58 then Some Colon
    else if b == 44 then Some Comma
    else if b == 61 then Some Equals
    else if b == 40 then Some LeftParen
    else if b == 41 then Some RightParen
    else if b == 91 then Some LeftBracket
    else if b == 93 then Some RightBracket
    else if b == 42 then Some Star
    else if b == 62 then Some Greater
    else if b == 46 then Some Period
    else None

-- a mark, of two bytes before one of one
abbrev pub mark_front : List ℕ → Front
mark_front [] = End
mark_front (b ∷ bs) =
    if begins (b ∷ bs) (codes "..") then Token (kind.Mark TwoPeriods) 2
    else if begins (b ∷ bs) (codes "->") then Token (kind.Mark Arrow) 2
    else option_map_or (λ m. Token (kind.Mark m) 1) (byte_mark b) BadByte

-- 1 where a sign stands at the front
abbrev pub sign_length : List ℕ → ℕ
sign_length text = if begins text (codes "+") || begins text (codes "-") then 1 else 0

-- how many digits stand after a full stop at the front
abbrev pub decimals_of : List ℕ → ℕ
decimals_of text = if begins text (codes ".") then prefix_len is_ascii_digit (drop 1 text) else 0

-- a number, where digits stand at the front after an optional sign, and else a mark; a full stop
-- belongs to the number where a digit follows it
abbrev pub number_front : List ℕ → Front
number_front text =
    let sign = sign_length text in
    let whole = prefix_len is_ascii_digit (drop sign text) in
    let decimals = decimals_of (drop (sign + whole) text) in
    if whole == 0 then mark_front text
    else if nat_lt 9 decimals || nat_lt 18 (whole + decimals) then LongNumber
    else Token kind.Number (sign + whole + (if decimals == 0 then 0 else 1) + decimals)

abbrev pub front_of : List ℕ → Front
front_of [] = End
front_of (b ∷ bs) =
    let text = b ∷ bs in
    if is_blank b then Passed 1
    else if begins text (codes "!!") then Passed (prefix_len is_inside_line text)
    else if begins text (codes "//") then explanation_front text
    else if begins text (codes "0x") then hex_front text
    else if is_ascii_alphabetic b then word_front text
    else number_front text

-- what stands after so many bytes of a text of this length is not empty, and ends by the end of
-- the text
abbrev pub LiesIn : ℕ → ℕ → Front → Type 0
LiesIn end offset (Passed n) = (0 < n) × (offset + n ≤ end)
LiesIn end offset (Token k n) = (0 < n) × (offset + n ≤ end)
LiesIn end offset _ = ⊤
