-- The tokens of a text, or its first fault.
use Rattle.std.specs.Prelude.{◌≡◌, ℕ, ◌+◌, ◌-◌, ◌≤◌, ◌<◌, List, [], ◌∷◌, take, drop, ⊤}
use Rattle.std.specs.List.{All}
use Rattle.ili_lexer.specs.declared.tokens.Kind.{Kind}
use Rattle.ili_lexer.specs.declared.tokens.Token.{Token}
use Rattle.ili_lexer.specs.declared.tokens.LexFault.{LexFault}
use Rattle.ili_lexer.specs.declared.tokens.LexFault.TheVariants.{BadByte, OpenExplanation}
use Rattle.ili_lexer.specs.declared.tokens.LexFault.TheVariants.{LongNumber, Memory}
use Rattle.ili_lexer.specs.Places.{line_after, column_after, StandsAt}
use Rattle.ili_lexer.specs.Longest.{IsBetween, IsTaken, IsBad, IsOpen, IsTooLong}

-- what a text is: its tokens, or its first fault
pub data Answer : Type 0 where
  tokens : List Token → Answer
  fault : LexFault → Answer

-- the token of n bytes that stands after i bytes
abbrev pub token_at : List ℕ → ℕ → Kind → ℕ → Token
token_at text i k n =
    record {
      kind = k;
      line = line_after (take i text);
      column = column_after (take i text);
      from = i;
      upto = i + n;
    }

-- an answer with a token before it
abbrev pub and_before : Token → Answer → Answer
and_before t (tokens ts) = tokens (t ∷ ts)
and_before t (fault f) = fault f

-- What the text gives after its first i bytes, by the table of tokens: at each place what stands
-- there, and then what the rest gives, up to the end or to the first fault.
pub data Gives (text : List ℕ) : ℕ → Answer → Type 0 where
  at_end : (i : ℕ) → drop i text ≡ [] → Gives text i (tokens [])
  -- a blank or a comment
  passing : (i n : ℕ) (a : Answer) → IsBetween (drop i text) n → Gives text (i + n) a
      → Gives text i a
  -- the longest token
  taking : (i n : ℕ) (k : Kind) (a b : Answer) → IsTaken (drop i text) k n
      → Gives text (i + n) a → b ≡ and_before (token_at text i k n) a → Gives text i b
  at_bad_byte : (i : ℕ) → IsBad (drop i text)
      → Gives text i (fault (BadByte (line_after (take i text)) (column_after (take i text))))
  at_open_explanation : (i : ℕ) → IsOpen (drop i text)
      → Gives text i
      (fault (OpenExplanation (line_after (take i text)) (column_after (take i text))))
  at_long_number : (i n : ℕ) → IsTooLong (drop i text) n
      → Gives text i (fault (LongNumber (line_after (take i text)) (column_after (take i text))))

-- ---- each token and the fault alone
-- each token is the longest at its place
abbrev pub AreLongest : List ℕ → List Token → Type 0
AreLongest text ts = All (λ (t : Token). IsTaken (drop t.from text) t.kind (t.upto - t.from)) ts

-- at this line and column of the text stands what is so
pub record IsAt (text : List ℕ) (line column : ℕ) (IsSo : List ℕ → Type 0) : Type 0 where
  pub offset : ℕ
  pub place : StandsAt text offset line column
  pub so : IsSo (drop offset text)

-- the fault by the table: what stands at its place
abbrev pub IsFaultByTable : List ℕ → LexFault → Type 0
IsFaultByTable text Memory = ⊤
IsFaultByTable text (BadByte l c) = IsAt text l c IsBad
IsFaultByTable text (OpenExplanation l c) = IsAt text l c IsOpen
IsFaultByTable text (LongNumber l c) = IsAt text l c (λ rest. (n : ℕ) × IsTooLong rest n)

-- ---- the tokens and the fault
-- these are all tokens of the text
abbrev pub AreTokens : List ℕ → List Token → Type 0
AreTokens text ts = Gives text 0 (tokens ts)

-- this is the first fault of the text; out of memory says nothing of it
abbrev pub IsFault : List ℕ → LexFault → Type 0
IsFault text Memory = ⊤
IsFault text (BadByte l c) = Gives text 0 (fault (BadByte l c))
IsFault text (OpenExplanation l c) = Gives text 0 (fault (OpenExplanation l c))
IsFault text (LongNumber l c) = Gives text 0 (fault (LongNumber l c))

-- none of the tokens is empty, each begins where the one before it ends or later, and the last ends
-- by the end of the text
abbrev pub AreInOrder : ℕ → ℕ → List Token → Type 0
AreInOrder end from [] = from ≤ end
AreInOrder end from (t ∷ ts) = (from ≤ t.from) × (t.from < t.upto) × AreInOrder end t.upto ts
