-- The kinds of the grammar's tokens are those of the text's tokens, one by one.
use Rattle.std.proofs.Common.{◌≡◌, refl, sym, ap, ◌∙◌}
use Rattle.ili_lexer.specs.declared.tokens.Kind.TheVariants as kinds
use Rattle.ili_lexer.specs.declared.tokens.Kind as kind
use Rattle.ili_lexer.specs.declared.tokens.Mark.TheVariants as marks
use Rattle.ili_lexer.specs.declared.tokens.Mark as mark
use Rattle.ili_lexer.specs.declared.keywords.Keyword.TheVariants as keywords
use Rattle.ili_lexer.specs.declared.keywords.Keyword as keyword
use Rattle.ili_grammar.specs.Tokens.{Word, TRANSFER, DOMAIN, MODEL, TOPIC, TABLE, OPTIONAL, END, NO}
use Rattle.ili_grammar.specs.Tokens.{IDENT, COORD2, COORD3, DIM1, DIM2, RADIANS, GRADS, DEGREES}
use Rattle.ili_grammar.specs.Tokens.{TEXT, DATE, HALIGNMENT, VALIGNMENT, POLYLINE, SURFACE, AREA}
use Rattle.ili_grammar.specs.Tokens.{WITH, STRAIGHTS, ARCS, VERTEX, BASE, WITHOUT, OVERLAPS}
use Rattle.ili_grammar.specs.Tokens.{LINEATTR, FORMAT, FREE, FIX, CODE, FONT, BLANK, UNDEFINED}
use Rattle.ili_grammar.specs.Tokens.{CONTINUE, DEFAULT, TID, I16, I32, ANY, VIEW, DERIVATIVES, Kind}
use Rattle.ili_grammar.specs.Tokens.{name, number, hex, explanation, word, semicolon, colon, comma}
use Rattle.ili_grammar.specs.Tokens.{equals, left_paren, right_paren, left_bracket, right_bracket}
use Rattle.ili_grammar.specs.Tokens.{star, greater, period, two_periods, arrow}
use Rattle.ili_grammar.specs.Slices.{word_of, mark_of, kind_of}

abbrev keyword_back : Word → keyword.Keyword
keyword_back TRANSFER = keywords.Transfer
keyword_back DOMAIN = keywords.Domain
keyword_back MODEL = keywords.Model
keyword_back TOPIC = keywords.Topic
keyword_back TABLE = keywords.Table
keyword_back OPTIONAL = keywords.Optional
keyword_back END = keywords.End
keyword_back NO = keywords.No
keyword_back IDENT = keywords.Ident
keyword_back COORD2 = keywords.Coord2
keyword_back COORD3 = keywords.Coord3
keyword_back DIM1 = keywords.Dim1
keyword_back DIM2 = keywords.Dim2
keyword_back RADIANS = keywords.Radians
keyword_back GRADS = keywords.Grads
keyword_back DEGREES = keywords.Degrees
keyword_back TEXT = keywords.Text
keyword_back DATE = keywords.Date
keyword_back HALIGNMENT = keywords.Halignment
keyword_back VALIGNMENT = keywords.Valignment
keyword_back POLYLINE = keywords.Polyline
keyword_back SURFACE = keywords.Surface
keyword_back AREA = keywords.Area
keyword_back WITH = keywords.With
keyword_back STRAIGHTS = keywords.Straights
keyword_back ARCS = keywords.Arcs
keyword_back VERTEX = keywords.Vertex
keyword_back BASE = keywords.Base
keyword_back WITHOUT = keywords.Without
keyword_back OVERLAPS = keywords.Overlaps
keyword_back LINEATTR = keywords.Lineattr
keyword_back FORMAT = keywords.Format
keyword_back FREE = keywords.Free
keyword_back FIX = keywords.Fix
keyword_back CODE = keywords.Code
keyword_back FONT = keywords.Font
keyword_back BLANK = keywords.Blank
keyword_back UNDEFINED = keywords.Undefined
keyword_back CONTINUE = keywords.Continue
keyword_back DEFAULT = keywords.Default
keyword_back TID = keywords.Tid
keyword_back I16 = keywords.I16
keyword_back I32 = keywords.I32
keyword_back ANY = keywords.Any
keyword_back VIEW = keywords.View
keyword_back DERIVATIVES = keywords.Derivatives

abbrev kind_back : Kind → kind.Kind
kind_back name = kinds.Name
kind_back number = kinds.Number
kind_back hex = kinds.Hex
kind_back explanation = kinds.Explanation
kind_back (word w) = kinds.Keyword (keyword_back w)
kind_back semicolon = kinds.Mark marks.Semicolon
kind_back colon = kinds.Mark marks.Colon
kind_back comma = kinds.Mark marks.Comma
kind_back equals = kinds.Mark marks.Equals
kind_back left_paren = kinds.Mark marks.LeftParen
kind_back right_paren = kinds.Mark marks.RightParen
kind_back left_bracket = kinds.Mark marks.LeftBracket
kind_back right_bracket = kinds.Mark marks.RightBracket
kind_back star = kinds.Mark marks.Star
kind_back greater = kinds.Mark marks.Greater
kind_back period = kinds.Mark marks.Period
kind_back two_periods = kinds.Mark marks.TwoPeriods
kind_back arrow = kinds.Mark marks.Arrow

keyword_there : (k : keyword.Keyword) → keyword_back (word_of k) ≡ k
keyword_there keywords.Transfer = refl
keyword_there keywords.Domain = refl
keyword_there keywords.Model = refl
keyword_there keywords.Topic = refl
keyword_there keywords.Table = refl
keyword_there keywords.Optional = refl
keyword_there keywords.End = refl
keyword_there keywords.No = refl
keyword_there keywords.Ident = refl
keyword_there keywords.Coord2 = refl
keyword_there keywords.Coord3 = refl
keyword_there keywords.Dim1 = refl
keyword_there keywords.Dim2 = refl
keyword_there keywords.Radians = refl
keyword_there keywords.Grads = refl
keyword_there keywords.Degrees = refl
keyword_there keywords.Text = refl
keyword_there keywords.Date = refl
keyword_there keywords.Halignment = refl
keyword_there keywords.Valignment = refl
keyword_there keywords.Polyline = refl
keyword_there keywords.Surface = refl
keyword_there keywords.Area = refl
keyword_there keywords.With = refl
keyword_there keywords.Straights = refl
keyword_there keywords.Arcs = refl
keyword_there keywords.Vertex = refl
keyword_there keywords.Base = refl
keyword_there keywords.Without = refl
keyword_there keywords.Overlaps = refl
keyword_there keywords.Lineattr = refl
keyword_there keywords.Format = refl
keyword_there keywords.Free = refl
keyword_there keywords.Fix = refl
keyword_there keywords.Code = refl
keyword_there keywords.Font = refl
keyword_there keywords.Blank = refl
keyword_there keywords.Undefined = refl
keyword_there keywords.Continue = refl
keyword_there keywords.Default = refl
keyword_there keywords.Tid = refl
keyword_there keywords.I16 = refl
keyword_there keywords.I32 = refl
keyword_there keywords.Any = refl
keyword_there keywords.View = refl
keyword_there keywords.Derivatives = refl

mark_there : (m : mark.Mark) → kind_back (mark_of m) ≡ kinds.Mark m
mark_there marks.Semicolon = refl
mark_there marks.Colon = refl
mark_there marks.Comma = refl
mark_there marks.Equals = refl
mark_there marks.LeftParen = refl
mark_there marks.RightParen = refl
mark_there marks.LeftBracket = refl
mark_there marks.RightBracket = refl
mark_there marks.Star = refl
mark_there marks.Greater = refl
mark_there marks.Period = refl
mark_there marks.TwoPeriods = refl
mark_there marks.Arrow = refl

there : (k : kind.Kind) → kind_back (kind_of k) ≡ k
there kinds.Name = refl
there (kinds.Keyword k) = ap (λ (k : keyword.Keyword). kinds.Keyword k) (keyword_there k)
there kinds.Number = refl
there kinds.Hex = refl
there kinds.Explanation = refl
there (kinds.Mark m) = mark_there m

pub kinds_differ : (a b : kind.Kind) → kind_of a ≡ kind_of b → a ≡ b
kinds_differ a b e = sym (there a) ∙ ap kind_back e ∙ there b
