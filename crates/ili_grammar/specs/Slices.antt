-- The tokens of a text as the grammar reads them.
use Rattle.std.specs.Prelude.{ℕ, ◌-◌, List, [], ◌∷◌, take, drop, length, nat_le, Bool, true, false}
use Rattle.std.specs.Prelude.{cond, ◌&&◌, ◌==◌, Option, Some, None}
use Rattle.ili_lexer.specs.declared.tokens.Token.{Token}
use Rattle.ili_lexer.specs.declared.tokens.Kind.TheVariants as kinds
use Rattle.ili_lexer.specs.declared.tokens.Kind as kind
use Rattle.ili_lexer.specs.declared.tokens.Mark.TheVariants as marks
use Rattle.ili_lexer.specs.declared.tokens.Mark as mark
use Rattle.ili_lexer.specs.declared.keywords.Keyword.TheVariants as keywords
use Rattle.ili_lexer.specs.declared.keywords.Keyword as keyword
use Rattle.ili_grammar.specs.Tokens.{Word, TRANSFER, DOMAIN, MODEL, TOPIC, TABLE, OPTIONAL, END, NO}
use Rattle.ili_grammar.specs.Tokens.{IDENT, COORD2, COORD3, DIM1, DIM2, RADIANS, GRADS, DEGREES}
use Rattle.ili_grammar.specs.Tokens.{TEXT, DATE, HALIGNMENT, VALIGNMENT, POLYLINE, SURFACE, AREA}
use Rattle.ili_grammar.specs.Tokens.{WITH, STRAIGHTS, ARCS, VERTEX, BASE, WITHOUT, OVERLAPS}
use Rattle.ili_grammar.specs.Tokens.{LINEATTR, FORMAT, FREE, FIX, CODE, FONT, BLANK, UNDEFINED}
use Rattle.ili_grammar.specs.Tokens.{CONTINUE, DEFAULT, TID, I16, I32, ANY, VIEW, DERIVATIVES, Kind}
use Rattle.ili_grammar.specs.Tokens.{name, number, hex, explanation, word, semicolon, colon, comma}
use Rattle.ili_grammar.specs.Tokens.{equals, left_paren, right_paren, left_bracket, right_bracket}
use Rattle.ili_grammar.specs.Tokens.{star, greater, period, two_periods, arrow, Info, Tok, tok}
use Rattle.ili_grammar.specs.Kinds.{same_kind}
use Rattle.ili_grammar.specs.Numbers.{is_short}

-- a keyword of the lexer as one of the grammar
abbrev pub word_of : keyword.Keyword → Word
word_of keywords.Transfer = TRANSFER
word_of keywords.Domain = DOMAIN
word_of keywords.Model = MODEL
word_of keywords.Topic = TOPIC
word_of keywords.Table = TABLE
word_of keywords.Optional = OPTIONAL
word_of keywords.End = END
word_of keywords.No = NO
word_of keywords.Ident = IDENT
word_of keywords.Coord2 = COORD2
word_of keywords.Coord3 = COORD3
word_of keywords.Dim1 = DIM1
word_of keywords.Dim2 = DIM2
word_of keywords.Radians = RADIANS
word_of keywords.Grads = GRADS
word_of keywords.Degrees = DEGREES
word_of keywords.Text = TEXT
word_of keywords.Date = DATE
word_of keywords.Halignment = HALIGNMENT
word_of keywords.Valignment = VALIGNMENT
word_of keywords.Polyline = POLYLINE
word_of keywords.Surface = SURFACE
word_of keywords.Area = AREA
word_of keywords.With = WITH
word_of keywords.Straights = STRAIGHTS
word_of keywords.Arcs = ARCS
word_of keywords.Vertex = VERTEX
word_of keywords.Base = BASE
word_of keywords.Without = WITHOUT
word_of keywords.Overlaps = OVERLAPS
word_of keywords.Lineattr = LINEATTR
word_of keywords.Format = FORMAT
word_of keywords.Free = FREE
word_of keywords.Fix = FIX
word_of keywords.Code = CODE
word_of keywords.Font = FONT
word_of keywords.Blank = BLANK
word_of keywords.Undefined = UNDEFINED
word_of keywords.Continue = CONTINUE
word_of keywords.Default = DEFAULT
word_of keywords.Tid = TID
word_of keywords.I16 = I16
word_of keywords.I32 = I32
word_of keywords.Any = ANY
word_of keywords.View = VIEW
word_of keywords.Derivatives = DERIVATIVES

-- a mark of the lexer as a kind of the grammar
abbrev pub mark_of : mark.Mark → Kind
mark_of marks.Semicolon = semicolon
mark_of marks.Colon = colon
mark_of marks.Comma = comma
mark_of marks.Equals = equals
mark_of marks.LeftParen = left_paren
mark_of marks.RightParen = right_paren
mark_of marks.LeftBracket = left_bracket
mark_of marks.RightBracket = right_bracket
mark_of marks.Star = star
mark_of marks.Greater = greater
mark_of marks.Period = period
mark_of marks.TwoPeriods = two_periods
mark_of marks.Arrow = arrow

-- a kind of the lexer as one of the grammar
abbrev pub kind_of : kind.Kind → Kind
kind_of kinds.Name = name
kind_of (kinds.Keyword k) = word (word_of k)
kind_of kinds.Number = number
kind_of kinds.Hex = hex
kind_of kinds.Explanation = explanation
kind_of (kinds.Mark m) = mark_of m

-- the bytes of a token
abbrev pub bytes_of : List ℕ → Token → List ℕ
bytes_of text t = take (t.upto - t.from) (drop t.from text)

-- a token stands directly after a number, where one is before it
abbrev pub is_behind : Option Token → Token → Bool
is_behind None t = false
is_behind (Some p) t = same_kind number (kind_of p.kind) && (p.upto == t.from)

-- what a token is besides its kind, by the text and the token before it
abbrev pub info_of : List ℕ → Option Token → Token → Info
info_of text p t =
    record {
      text = bytes_of text t;
      line = t.line;
      column = t.column;
      after_number = is_behind p t;
    }

-- tokens after another
abbrev pub toks_behind : List ℕ → Option Token → List Token → List Tok
toks_behind text p [] = []
toks_behind text p (t ∷ ts) = tok (kind_of t.kind) (info_of text p t) ∷ toks_behind text (Some t) ts

-- the tokens of a text
unfoldable pub toks : List ℕ → List Token → List Tok
toks text ts = toks_behind text None ts

-- a number has at most 18 digits and at most 9 after its full stop, a Hex has at most 4 bytes
abbrev pub is_short_token : List ℕ → Token → Bool
is_short_token text t =
    cond (same_kind number (kind_of t.kind)) (is_short (bytes_of text t)) true
    && cond (same_kind hex (kind_of t.kind)) (nat_le (length (bytes_of text t)) 4) true

abbrev pub are_short : List ℕ → List Token → Bool
are_short text [] = true
are_short text (t ∷ ts) = is_short_token text t && are_short text ts
