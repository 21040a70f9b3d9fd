-- The keywords and the bytes of their words.
use Rattle.std.specs.Prelude.{ℕ, List, [], ◌∷◌, cond, Option, Some, None, codes}
use Rattle.std.specs.Str.{bytes_eq}
use Rattle.ili_lexer.specs.declared.keywords.Keyword.{Keyword}
use Rattle.ili_lexer.specs.declared.keywords.Keyword.TheVariants.{Transfer, Domain, Model, Topic}
use Rattle.ili_lexer.specs.declared.keywords.Keyword.TheVariants.{Table, Optional, End, No, Ident}
use Rattle.ili_lexer.specs.declared.keywords.Keyword.TheVariants.{Coord2, Coord3, Dim1, Dim2}
use Rattle.ili_lexer.specs.declared.keywords.Keyword.TheVariants.{Radians, Grads, Degrees, Text}
use Rattle.ili_lexer.specs.declared.keywords.Keyword.TheVariants.{Date, Halignment, Valignment}
use Rattle.ili_lexer.specs.declared.keywords.Keyword.TheVariants.{Polyline, Surface, Area, With}
use Rattle.ili_lexer.specs.declared.keywords.Keyword.TheVariants.{Straights, Arcs, Vertex, Base}
use Rattle.ili_lexer.specs.declared.keywords.Keyword.TheVariants.{Without, Overlaps, Lineattr}
use Rattle.ili_lexer.specs.declared.keywords.Keyword.TheVariants.{Format, Free, Fix, Code, Font}
use Rattle.ili_lexer.specs.declared.keywords.Keyword.TheVariants.{Blank, Undefined, Continue}
use Rattle.ili_lexer.specs.declared.keywords.Keyword.TheVariants.{Default, Tid, I16, I32, Any, View}
use Rattle.ili_lexer.specs.declared.keywords.Keyword.TheVariants.{Derivatives}

-- the bytes of each keyword's word
abbrev pub word_of : Keyword → List ℕ
word_of Transfer = codes "TRANSFER"
word_of Domain = codes "DOMAIN"
word_of Model = codes "MODEL"
word_of Topic = codes "TOPIC"
word_of Table = codes "TABLE"
word_of Optional = codes "OPTIONAL"
word_of End = codes "END"
word_of No = codes "NO"
word_of Ident = codes "IDENT"
word_of Coord2 = codes "COORD2"
word_of Coord3 = codes "COORD3"
word_of Dim1 = codes "DIM1"
word_of Dim2 = codes "DIM2"
word_of Radians = codes "RADIANS"
word_of Grads = codes "GRADS"
word_of Degrees = codes "DEGREES"
word_of Text = codes "TEXT"
word_of Date = codes "DATE"
word_of Halignment = codes "HALIGNMENT"
word_of Valignment = codes "VALIGNMENT"
word_of Polyline = codes "POLYLINE"
word_of Surface = codes "SURFACE"
word_of Area = codes "AREA"
word_of With = codes "WITH"
word_of Straights = codes "STRAIGHTS"
word_of Arcs = codes "ARCS"
word_of Vertex = codes "VERTEX"
word_of Base = codes "BASE"
word_of Without = codes "WITHOUT"
word_of Overlaps = codes "OVERLAPS"
word_of Lineattr = codes "LINEATTR"
word_of Format = codes "FORMAT"
word_of Free = codes "FREE"
word_of Fix = codes "FIX"
word_of Code = codes "CODE"
word_of Font = codes "FONT"
word_of Blank = codes "BLANK"
word_of Undefined = codes "UNDEFINED"
word_of Continue = codes "CONTINUE"
word_of Default = codes "DEFAULT"
word_of Tid = codes "TID"
word_of I16 = codes "I16"
word_of I32 = codes "I32"
word_of Any = codes "ANY"
word_of View = codes "VIEW"
word_of Derivatives = codes "DERIVATIVES"

-- every keyword
abbrev pub keywords : List Keyword
keywords =
    Transfer ∷ Domain ∷ Model ∷ Topic ∷ Table ∷ Optional ∷ End ∷ No ∷ Ident ∷ Coord2 ∷ Coord3 ∷ Dim1
    ∷ Dim2 ∷ Radians ∷ Grads ∷ Degrees ∷ Text ∷ Date ∷ Halignment ∷ Valignment ∷ Polyline ∷ Surface
    ∷ Area ∷ With ∷ Straights ∷ Arcs ∷ Vertex ∷ Base ∷ Without ∷ Overlaps ∷ Lineattr ∷ Format ∷ Free
    ∷ Fix ∷ Code ∷ Font ∷ Blank ∷ Undefined ∷ Continue ∷ Default ∷ Tid ∷ I16 ∷ I32 ∷ Any ∷ View
    ∷ Derivatives ∷ []

abbrev pub keyword_among : List Keyword → List ℕ → Option Keyword
keyword_among [] word = None
keyword_among (k ∷ ks) word = cond (bytes_eq (word_of k) word) (Some k) (keyword_among ks word)

-- the keyword with this word, if there is one
unfoldable pub keyword_of : List ℕ → Option Keyword
keyword_of = keyword_among keywords
