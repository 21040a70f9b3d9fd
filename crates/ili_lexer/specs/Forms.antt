-- The table of tokens: the form of each kind.
use Rattle.std.specs.Prelude.{◌≡◌, ℕ, ◌+◌, ◌<◌, ◌≤◌, List, [], ◌∷◌, ◌++◌, length, drop, true, false}
use Rattle.std.specs.Prelude.{codes}
use Rattle.std.specs.List.{AllPass}
use Rattle.std.specs.Char.{is_ascii_alphabetic, is_ascii_digit, is_ascii_hexdigit}
use Rattle.ili_lexer.specs.declared.tokens.Kind.{Kind}
use Rattle.ili_lexer.specs.declared.tokens.Kind.TheVariants as kind
use Rattle.ili_lexer.specs.declared.tokens.Mark.{Mark}
use Rattle.ili_lexer.specs.declared.tokens.Mark.TheVariants.{Semicolon, Colon, Comma, Equals}
use Rattle.ili_lexer.specs.declared.tokens.Mark.TheVariants.{LeftParen, RightParen, LeftBracket}
use Rattle.ili_lexer.specs.declared.tokens.Mark.TheVariants.{RightBracket, Star, Greater, Period}
use Rattle.ili_lexer.specs.declared.tokens.Mark.TheVariants.{TwoPeriods, Arrow}
use Rattle.ili_lexer.specs.declared.keywords.Keyword.{Keyword}
use Rattle.ili_lexer.specs.Bytes.{is_name_byte}
use Rattle.ili_lexer.specs.Keywords.{word_of}
use Rattle.ili_lexer.specs.Fronts.{begins}

-- a letter, then letters, digits and `_`; not the word of a keyword
pub record IsName (bytes : List ℕ) : Type 0 where
  pub first : ℕ
  pub rest : List ℕ
  pub made : bytes ≡ first ∷ rest
  pub letter : is_ascii_alphabetic first ≡ true
  pub behind : AllPass is_name_byte rest
  pub free : (k : Keyword) → bytes ≡ word_of k → ⊥

-- nothing, `+` or `-`
pub data IsSign : List ℕ → Type 0 where
  unsigned : IsSign []
  plus : IsSign (43 ∷ [])
  minus : IsSign (45 ∷ [])

-- a full stop and the digits after it, or nothing where there are none
abbrev pub fraction : List ℕ → List ℕ
fraction [] = []
fraction (d ∷ ds) = 46 ∷ d ∷ ds

-- an optional sign directly before one or more digits, then optionally a full stop directly
-- followed by one or more digits
pub record IsNumber (bytes : List ℕ) : Type 0 where
  pub sign : List ℕ
  pub whole : List ℕ
  pub decimals : List ℕ
  pub made : bytes ≡ sign ++ (whole ++ fraction decimals)
  pub signed : IsSign sign
  pub some : 0 < length whole
  pub digits : AllPass is_ascii_digit whole
  pub behind : AllPass is_ascii_digit decimals

-- at most 18 digits, of which at most 9 stand after the full stop
pub record IsShort {bytes : List ℕ} (n : IsNumber bytes) : Type 0 where
  pub all : length n.whole + length n.decimals ≤ 18
  pub behind : length n.decimals ≤ 9

-- `0x` and one or two hexadecimal digits
pub record IsHex (bytes : List ℕ) : Type 0 where
  pub digits : List ℕ
  pub made : bytes ≡ 48 ∷ 120 ∷ digits
  pub some : 0 < length digits
  pub few : length digits ≤ 2
  pub hexadecimal : AllPass is_ascii_hexdigit digits

-- `//`, any bytes, and the next `//`: none begins before it
pub record IsExplanation (bytes : List ℕ) : Type 0 where
  pub inside : List ℕ
  pub made : bytes ≡ codes "//" ++ (inside ++ codes "//")
  pub next : (i : ℕ) → i < length inside
      → begins (drop i (inside ++ codes "//")) (codes "//") ≡ false

-- the bytes of each mark
abbrev pub bytes_of_mark : Mark → List ℕ
bytes_of_mark Semicolon = codes ";"
bytes_of_mark Colon = codes ":"
bytes_of_mark Comma = codes ","
bytes_of_mark Equals = codes "="
bytes_of_mark LeftParen = codes "("
bytes_of_mark RightParen = codes ")"
bytes_of_mark LeftBracket = codes "["
bytes_of_mark RightBracket = codes "]"
bytes_of_mark Star = codes "*"
bytes_of_mark Greater = codes ">"
bytes_of_mark Period = codes "."
bytes_of_mark TwoPeriods = codes ".."
bytes_of_mark Arrow = codes "->"

-- these bytes are a token of this kind: the table, a row for each kind
abbrev pub IsToken : Kind → List ℕ → Type 0
IsToken kind.Name bytes = IsName bytes
IsToken (kind.Keyword k) bytes = bytes ≡ word_of k
IsToken kind.Number bytes = IsNumber bytes
IsToken kind.Hex bytes = IsHex bytes
IsToken kind.Explanation bytes = IsExplanation bytes
IsToken (kind.Mark m) bytes = bytes ≡ bytes_of_mark m
