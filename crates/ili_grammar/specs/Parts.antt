-- What parts of a rule the private readers read, as the grammar has them.
use Rattle.std.specs.Prelude.{◌≡◌, ℕ, List, ◌∷◌}
use Rattle.std.specs.Option.{option_map}
use Rattle.ili_grammar.specs.declared.lines.LineHead as stored
use Rattle.ili_grammar.specs.Tokens.{Word, Kind, name, number, word, equals, period, two_periods}
use Rattle.ili_grammar.specs.Tokens.{right_bracket, star, semicolon, END, TID, FORMAT, FREE, CODE}
use Rattle.ili_grammar.specs.Tokens.{BLANK, Info, Tok, tok}
use Rattle.ili_grammar.specs.Syntax.{Ident, Decimal, Span, Corners2, Corners3, LineHead, LineSyntax}
use Rattle.ili_grammar.specs.Syntax.{a_line, Attributes, DomainSyntax, TableSyntax, TopicSyntax}
use Rattle.ili_grammar.specs.Syntax.{Codes}
use Rattle.ili_grammar.specs.Models.{IsDomains, IsBody, IsTopics, IsValue, IsTid, IsCodes, IsFont}
use Rattle.ili_grammar.specs.Numbers.{ident, decimal}
use Rattle.ili_grammar.specs.Types.{span, IsLine, IsLineAttributes, IsList, IsLists}
use Rattle.ili_grammar.specs.Values.{ident_of, decimal_of}

-- ---- numbers
abbrev pub ReadsSpan : Span → List Tok → List Tok → Type 0
ReadsSpan x w v = (a : Info) × (b : Info) × (w ≡ tok number a ∷ tok number b ∷ v) × (x ≡ span a b)

abbrev pub ReadsCorners2 : Corners2 → List Tok → List Tok → Type 0
ReadsCorners2 x w v =
    (a : Info) × (b : Info) × (g : Info) × (h : Info)
    × (w ≡ tok number a ∷ tok number b ∷ tok number g ∷ tok number h ∷ v)
    × (x ≡ record { x = span a g; y = span b h })

abbrev pub ReadsCorners3 : Corners3 → List Tok → List Tok → Type 0
ReadsCorners3 x w v = (a : Info) × (b : Info) × (c : Info) × (g : Info) × (h : Info) × (j : Info)
    × (w ≡ tok number a ∷ tok number b ∷ tok number c
    ∷ tok number g ∷ tok number h ∷ tok number j ∷ v)
    × (x ≡ record { x = span a g; y = span b h; z = span c j })

abbrev pub ReadsRange : Span → List Tok → List Tok → Type 0
ReadsRange x w v =
    (a : Info) × (p : Info) × (b : Info) × (q : Info)
    × (w ≡ tok number a ∷ tok two_periods p ∷ tok number b ∷ tok right_bracket q ∷ v)
    × (x ≡ span a b)

abbrev pub ReadsLength : Decimal → List Tok → List Tok → Type 0
ReadsLength x w v = (s : Info) × (a : Info) × (w ≡ tok star s ∷ tok number a ∷ v) × (x ≡ decimal a)

-- ---- lines
abbrev pub head_of : stored.LineHead → LineHead
head_of l =
    record {
      straights = l.straights;
      arcs = l.arcs;
      vertex = ident_of l.vertex;
      overlap = option_map decimal_of l.overlap;
    }

-- a line with its LINEATTR part, or without one
abbrev pub ReadsLine : ℕ → LineSyntax → List Tok → List Tok → Type 0
ReadsLine d x w v =
    (l : LineHead) × (as_ : Attributes) × (is : List (List Ident)) × (u : List Tok)
    × (x ≡ a_line l as_ is) × IsLine l w u × IsLineAttributes d as_ is u v

-- ---- IDENT lists
abbrev pub ReadsEndedList : List Ident → List Tok → List Tok → Type 0
ReadsEndedList l w v = (i : Info) × (u : List Tok) × IsList l w u × (u ≡ tok semicolon i ∷ v)

-- one list or more
abbrev pub ReadsLists : List (List Ident) → List Tok → List Tok → Type 0
ReadsLists ls w v =
    (l : List Ident) × (m : List (List Ident)) × (u : List Tok) × (ls ≡ l ∷ m)
    × ReadsEndedList l w u × IsLists m u v

-- ---- domains, tables and topics
-- a domain, before others
abbrev pub ReadsDomain : DomainSyntax → List Tok → List Tok → Type 0
ReadsDomain d w v =
    (ds : List DomainSyntax) (r : List Tok) → IsDomains 32 ds v r → IsDomains 32 (d ∷ ds) w r

-- a table with what stands before its TABLE, before others
abbrev pub ReadsTable : TableSyntax → List Tok → List Tok → Type 0
ReadsTable t w v =
    (ds : List DomainSyntax) (ts : List TableSyntax) (r : List Tok) → IsBody 32 ds ts v r
    → IsBody 32 ds (t ∷ ts) w r

-- a topic with what stands before its TOPIC, before others
abbrev pub ReadsTopic : TopicSyntax → List Tok → List Tok → Type 0
ReadsTopic t w v =
    (ts : List TopicSyntax) (r : List Tok) → IsTopics 32 ts v r → IsTopics 32 (t ∷ ts) w r

abbrev pub ReadsHeading : Word → Ident → List Tok → List Tok → Type 0
ReadsHeading k x w v =
    (i : Info) × (n : Info) × (j : Info) × (w ≡ tok (word k) i ∷ tok name n ∷ tok equals j ∷ v)
    × (x ≡ ident n)

abbrev pub ReadsEndName : Ident → List Tok → List Tok → Type 0
ReadsEndName x w v = (m : Info) × (w ≡ tok name m ∷ v) × (m.text ≡ x.text)

abbrev pub ReadsEnding : Kind → Ident → List Tok → List Tok → Type 0
ReadsEnding p x w v =
    (k : Info) × (m : Info) × (j : Info) × (w ≡ tok (word END) k ∷ tok name m ∷ tok p j ∷ v)
    × (m.text ≡ x.text)

-- ---- codes
abbrev pub ReadsValue : ℕ → ℕ → List Tok → List Tok → Type 0
ReadsValue d b w v = (t : Tok) × (w ≡ t ∷ v) × IsValue d b t

abbrev pub ReadsCode : Word → ℕ → ℕ → List Tok → List Tok → Type 0
ReadsCode k d b w v =
    (i : Info) × (j : Info) × (t : Tok) × (w ≡ tok (word k) i ∷ tok equals j ∷ t ∷ v)
    × IsValue d b t

abbrev pub ReadsForm : List Tok → List Tok → Type 0
ReadsForm w v = (x : Tok) × (w ≡ x ∷ v) × IsTid x

abbrev pub ReadsTid : List Tok → List Tok → Type 0
ReadsTid w v =
    (i : Info) × (j : Info) × (k : Info) × (x : Tok) × (l : Info) × (m : Info) × (p : Info)
    × (w ≡ tok semicolon i ∷ tok (word TID) j ∷ tok equals k ∷ x ∷ tok semicolon l
    ∷ tok (word END) m ∷ tok period p ∷ v)
    × IsTid x

-- from BLANK on
abbrev pub ReadsCodes : Codes → List Tok → List Tok → Type 0
ReadsCodes c w v =
    (g : Info) × (h : Info) × (x : List Tok) × (w ≡ tok (word BLANK) g ∷ tok equals h ∷ x)
    × IsCodes c x v

-- from FORMAT on
abbrev pub ReadsFormat : Codes → List Tok → List Tok → Type 0
ReadsFormat c w v =
    (g : Info) × (h : Info) × (i : Info) × (j : Info) × (x : List Tok) × (y : List Tok)
    × (w ≡ tok (word FORMAT) g ∷ tok (word FREE) h ∷ tok semicolon i ∷ tok (word CODE) j ∷ x)
    × IsFont x y × ReadsCodes c y v
