-- What stands at the front of a text, by the table of tokens: the longest token.
use Rattle.std.specs.Prelude.{◌≡◌, ℕ, ◌≤◌, List, [], ◌∷◌, length, take, drop, Bool, true, false}
use Rattle.std.specs.Prelude.{codes}
use Rattle.std.specs.List.{prefix_len}
use Rattle.std.specs.Char.{is_ascii_hexdigit}
use Rattle.ili_lexer.specs.declared.fronts.Front.{Front}
use Rattle.ili_lexer.specs.declared.fronts.Front.TheVariants.{End, Passed, Token, BadByte}
use Rattle.ili_lexer.specs.declared.fronts.Front.TheVariants.{OpenExplanation, LongNumber}
use Rattle.ili_lexer.specs.declared.tokens.Kind.{Kind}
use Rattle.ili_lexer.specs.declared.tokens.Kind.TheVariants as kind
use Rattle.ili_lexer.specs.Bytes.{is_blank, is_inside_line}
use Rattle.ili_lexer.specs.Fronts.{begins}
use Rattle.ili_lexer.specs.Forms.{IsToken, IsNumber, IsShort}

-- the first n bytes of the text are a token of this kind
pub record Stands (text : List ℕ) (k : Kind) (n : ℕ) : Type 0 where
  pub within : n ≤ length text
  pub token : IsToken k (take n text)

-- a token of that length, and no longer front of the text is a token of any kind
pub record IsLongest (text : List ℕ) (k : Kind) (n : ℕ) : Type 0 where
  pub stands : Stands text k n
  pub longest : (j : Kind) (m : ℕ) → Stands text j m → m ≤ n

-- no token stands at the front
abbrev pub HasNone : List ℕ → Type 0
HasNone text = (k : Kind) (n : ℕ) → Stands text k n → ⊥

-- the text begins with a blank
abbrev pub begins_blank : List ℕ → Bool
begins_blank [] = false
begins_blank (b ∷ bs) = is_blank b

-- `0x` with no hexadecimal digit after it, which is a fault though the `0` alone is a number
pub record IsOpenHex (text : List ℕ) : Type 0 where
  pub opened : begins text (codes "0x") ≡ true
  pub none : prefix_len is_ascii_hexdigit (drop 2 text) ≡ 0

-- bytes between tokens: one blank, or a comment, which goes to the end of its line
pub data IsBetween (text : List ℕ) (n : ℕ) : Type 0 where
  blank : begins_blank text ≡ true → n ≡ 1 → IsBetween text n
  comment : begins text (codes "!!") ≡ true → n ≡ prefix_len is_inside_line text → IsBetween text n

-- the bytes of a number, where the kind is one, have few enough digits
abbrev pub HasFewDigits : Kind → List ℕ → Type 0
HasFewDigits kind.Number bytes = (n : IsNumber bytes) × IsShort n
HasFewDigits k bytes = Unit {0}

-- the longest token, whose digits are few
pub record IsTaken (text : List ℕ) (k : Kind) (n : ℕ) : Type 0 where
  pub longest : IsLongest text k n
  pub few : HasFewDigits k (take n text)
  pub closed : IsOpenHex text → ⊥

-- the longest token is a number with too many digits
pub record IsTooLong (text : List ℕ) (n : ℕ) : Type 0 where
  pub longest : IsLongest text kind.Number n
  pub number : IsNumber (take n text)
  pub long : IsShort number → ⊥

-- a byte with which nothing begins, or a `0x` without a digit
pub data IsBad (text : List ℕ) : Type 0 where
  nothing : (text ≡ [] → ⊥) → begins_blank text ≡ false → begins text (codes "!!") ≡ false
      → begins text (codes "//") ≡ false → HasNone text → IsBad text
  open_hex : IsOpenHex text → IsBad text

-- `//`, and no token stands there: the explanation has no end
pub record IsOpen (text : List ℕ) : Type 0 where
  pub opened : begins text (codes "//") ≡ true
  pub none : HasNone text

-- this is what stands at the front of the text
abbrev pub IsFront : List ℕ → Front → Type 0
IsFront text End = text ≡ []
IsFront text (Passed n) = IsBetween text n
IsFront text (Token k n) = IsTaken text k n
IsFront text BadByte = IsBad text
IsFront text OpenExplanation = IsOpen text
IsFront text LongNumber = (n : ℕ) × IsTooLong text n

-- what may stand at the front where the table has a token there: a token, a number with too many
-- digits, or the fault of an open `0x`
abbrev pub MayHoldToken : List ℕ → Front → Type 0
MayHoldToken text (Token k n) = Unit {0}
MayHoldToken text LongNumber = Unit {0}
MayHoldToken text BadByte = IsOpenHex text
MayHoldToken text f = ⊥
