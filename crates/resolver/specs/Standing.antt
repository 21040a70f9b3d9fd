-- What the parts of a model stand for, by what is written alone: no value stands in for one that is
-- missing.
use Rattle.std.specs.Prelude.{◌≡◌, ℕ, ◌-◌, ◌^◌, ◌≤◌, ℤ, pos, neg_ℤ, ◌*ℤ◌, ◌<ℤ◌, ◌≤ℤ◌, Bool, true}
use Rattle.std.specs.Prelude.{false, List, slice_get, Option, Some, None}
use Rattle.std.specs.List.{AllZip}
use Rattle.ili_grammar.specs.Syntax as syntax
use Rattle.ili_grammar.specs.Syntax.{Ident, Decimal, Span, LineHead, LineSyntax, a_line, Attributes}
use Rattle.ili_grammar.specs.Syntax.{no_attributes, and_attribute, an_attribute, Content, Value}
use Rattle.ili_grammar.specs.Syntax.{TypeSyntax, Named, DomainSyntax, TableSyntax, TopicSyntax}
use Rattle.ili_grammar.specs.Syntax.{ModelSyntax}
use Rattle.resolver.specs.declared.shape.Shape.{Shape}
use Rattle.resolver.specs.declared.shape.Shape.TheVariants as shapes
use Rattle.resolver.specs.Resolved as resolved
use Rattle.resolver.specs.Resolved.{Limits, Window, Block, Form, LineForm, AttributeForm, LinePart}
use Rattle.resolver.specs.Resolved.{ModelTable, Topic, ResolvedModel}
use Rattle.resolver.specs.Numbers.{scale_of, in_units, leaves}
use Rattle.resolver.specs.Scopes.{Scope, Meaning, is_among, place, texts, names_of, name_alone}
use Rattle.resolver.specs.Scopes.{everywhere, outside, inside}
use Rattle.resolver.specs.Lines.{suits}
use Rattle.resolver.specs.Rules.{attribute_names}

-- what a type stands for: itself where it is no name alone; a name that is declared further out
-- what it stands for there, any other what the first domain of that name stands for
pub data StandsFor (m : Meaning) : Scope → TypeSyntax → Type 0 where
  as_written : (s : Scope) (t : TypeSyntax) → name_alone t ≡ None
      → m ≡ record { scope = s; kind = t } → StandsFor m s t
  as_outside : (s : Scope) (t : TypeSyntax) (n : Ident) → name_alone t ≡ Some n
      → is_among n.text (names_of s.above) ≡ true → StandsFor m (outside s.above) t
      → StandsFor m s t
  as_declared : (s : Scope) (t : TypeSyntax) (n : Ident) (i : ℕ) (d : DomainSyntax)
      → name_alone t ≡ Some n → is_among n.text (names_of s.above) ≡ false
      → place n.text (names_of s.own) ≡ Some i → slice_get s.own i ≡ Some d → StandsFor m s d.kind
      → StandsFor m s t

-- ---- numbers
-- at most 18 digits
pub record HasFewDigits (z : ℤ) : Type 0 where
  pub above : neg_ℤ (pos (10 ^ 18)) <ℤ z
  pub below : z <ℤ pos (10 ^ 18)

-- exactly the number that is written, in units of the scale
pub record IsBound (scale : ℕ) (d : Decimal) (z : ℤ) : Type 0 where
  pub decimals : d.scale ≤ scale
  pub value : z ≡ (d.digits *ℤ pos (10 ^ (scale - d.scale)))
  pub digits : HasFewDigits z

-- both bounds, the low one first
pub record AreLimits (scale : ℕ) (s : Span) (l : Limits) : Type 0 where
  pub low : IsBound scale s.low l.low
  pub high : IsBound scale s.high l.high
  pub ordered : l.low ≤ℤ l.high
  pub decimals : l.scale ≡ scale

-- a greatest number of bytes
pub record IsLength (d : Decimal) (n : ℕ) : Type 0 where
  pub whole : d.scale ≡ 0
  pub value : d.digits ≡ pos n
  pub some : 1 ≤ n
  pub few : n ≤ 65535

-- ---- values
-- a number of that kind, whose bounds are those of the span
abbrev pub IsNumber : (Limits → Form) → ℕ → Span → Form → Type 0
IsNumber kind scale s f = (l : Limits) × (f ≡ kind l) × AreLimits scale s l

-- what a type is that is neither a name nor a line
abbrev pub IsForm : TypeSyntax → Form → Type 0
IsForm (syntax.Coord2 c) f =
    (w : Window) × (f ≡ resolved.Coord2 w) × AreLimits (scale_of (syntax.Coord2 c)) c.x w.x
    × AreLimits (scale_of (syntax.Coord2 c)) c.y w.y
IsForm (syntax.Coord3 c) f =
    (b : Block) × (f ≡ resolved.Coord3 b) × AreLimits (scale_of (syntax.Coord3 c)) c.x b.x
    × AreLimits (scale_of (syntax.Coord3 c)) c.y b.y
    × AreLimits (scale_of (syntax.Coord3 c)) c.z b.z
IsForm (syntax.Dim1 s) f = IsNumber resolved.Dim1 (scale_of (syntax.Dim1 s)) s f
IsForm (syntax.Dim2 s) f = IsNumber resolved.Dim2 (scale_of (syntax.Dim2 s)) s f
IsForm (syntax.Radians s) f = IsNumber resolved.Radians (scale_of (syntax.Radians s)) s f
IsForm (syntax.Grads s) f = IsNumber resolved.Grads (scale_of (syntax.Grads s)) s f
IsForm (syntax.Degrees s) f = IsNumber resolved.Degrees (scale_of (syntax.Degrees s)) s f
IsForm (syntax.Range s) f = IsNumber resolved.Range (scale_of (syntax.Range s)) s f
IsForm (syntax.Text d) f = (n : ℕ) × (f ≡ resolved.Text n) × IsLength d n
IsForm syntax.Date f = f ≡ resolved.Date
IsForm syntax.HAlignment f = f ≡ resolved.HAlignment
IsForm syntax.VAlignment f = f ≡ resolved.VAlignment
IsForm (syntax.Enumeration es) f = f ≡ resolved.Enumeration (leaves es)
IsForm t f = ⊥

-- a reference names the table by its number
abbrev pub IsReference : Scope → Ident → Form → Type 0
IsReference s n f = (k : ℕ) × (f ≡ resolved.Reference k) × (place n.text s.tables ≡ Some k)

-- a type or a reference stands for what a value may be
abbrev pub IsValue : Scope → Content → Form → Type 0
IsValue s (Value t) f = (m : Meaning) × StandsFor m s t × IsForm m.kind f
IsValue s (syntax.Reference n) f = IsReference s n f

-- IDENT lists by the numbers of the attributes that have the names
abbrev pub AreIdents : Attributes → List (List Ident) → List (List ℕ) → Type 0
AreIdents as_ lists places =
    AllZip (AllZip (λ n k. place n.text (texts (attribute_names as_)) ≡ Some k)) lists places

-- ---- lines
-- where vertices lie, and their heights where they have any
abbrev pub AreVertices : TypeSyntax → Window → Option Limits → Type 0
AreVertices (syntax.Coord2 c) w h =
    AreLimits (scale_of (syntax.Coord2 c)) c.x w.x × AreLimits (scale_of (syntax.Coord2 c)) c.y w.y
    × (h ≡ None)
AreVertices (syntax.Coord3 c) w h =
    AreLimits (scale_of (syntax.Coord3 c)) c.x w.x × AreLimits (scale_of (syntax.Coord3 c)) c.y w.y
    × (z : Limits) × (h ≡ Some z) × AreLimits (scale_of (syntax.Coord3 c)) c.z z
AreVertices t w h = ⊥

-- an overlap is given where one is written, in units of the scale, further decimals dropped
abbrev pub IsOverlap : ℕ → Option Decimal → Option ℤ → Type 0
IsOverlap scale None z = z ≡ None
IsOverlap scale (Some d) z = (z ≡ Some (in_units scale d)) × HasFewDigits (in_units scale d)

-- a line of the attribute of that name, whose vertices are of a type that suits it
pub record HasForm (shape : Shape) (name : List ℕ) (optional : Bool) (head : LineHead)
    (kind : TypeSyntax) (f : LineForm) : Type 0 where
  pub suits : suits shape kind ≡ true
  pub vertices : AreVertices kind f.window f.height
  pub overlap : IsOverlap (scale_of kind) head.overlap f.overlap
  pub name_is : f.name ≡ name
  pub optional_is : f.optional ≡ optional
  pub arcs : f.arcs ≡ head.arcs

-- a line as it is written stands for what a line may be
abbrev pub IsLine : Shape → List ℕ → Bool → Scope → LineSyntax → LineForm → Type 0
IsLine shape name optional s (a_line head as_ lists) f =
    (v : Meaning) × StandsFor v s (Named head.vertex) × HasForm shape name optional head v.kind f

-- the attributes of a line, each a value or a reference
abbrev pub AreValues : Scope → Attributes → resolved.Attributes → Type 0
AreValues s no_attributes fs = fs ≡ resolved.no_attributes
AreValues s (and_attribute (an_attribute n o c) as_) fs =
    (f : Form) × (rest : resolved.Attributes)
    × (fs ≡ resolved.and_attribute (resolved.an_attribute n.text o (resolved.Value f)) rest)
    × IsValue s c f × AreValues s as_ rest

-- the attributes and the IDENT lists of a LINEATTR
abbrev pub IsPart : Scope → LineSyntax → LinePart → Type 0
IsPart s (a_line head as_ lists) p =
    (own : resolved.Attributes) × (places : List (List ℕ)) × (p ≡ resolved.a_part own places)
    × AreValues s as_ own × AreIdents as_ lists places

-- ---- attributes of tables
-- an attribute of that name whose type is written in a scope
abbrev pub IsTypeForm : List ℕ → Bool → Scope → TypeSyntax → AttributeForm → Type 0
IsTypeForm name optional s (syntax.Polyline l) f =
    (h : LineForm) × (f ≡ resolved.Polyline h) × IsLine shapes.Polyline name optional s l h
IsTypeForm name optional s (syntax.Surface l) f =
    (h : LineForm) × (p : LinePart) × (f ≡ resolved.Surface h p)
    × IsLine shapes.Surface name optional s l h × IsPart s l p
IsTypeForm name optional s (syntax.Area l) f =
    (h : LineForm) × (p : LinePart) × (f ≡ resolved.Area h p)
    × IsLine shapes.Area name optional s l h × IsPart s l p
IsTypeForm name optional s t f = (v : Form) × (f ≡ resolved.Value v) × IsForm t v

-- an attribute of that name by its content: a type that is written in a scope, or a reference
abbrev pub IsContent : List ℕ → Bool → Scope → Content → AttributeForm → Type 0
IsContent name optional s (Value t) f =
    (m : Meaning) × StandsFor m s t × IsTypeForm name optional m.scope m.kind f
IsContent name optional s (syntax.Reference n) f =
    (v : Form) × (f ≡ resolved.Value v) × IsReference s n v

-- attributes as they are written stand for these, one for each
abbrev pub AreAttributes : Scope → Attributes → resolved.Attributes → Type 0
AreAttributes s no_attributes fs = fs ≡ resolved.no_attributes
AreAttributes s (and_attribute (an_attribute n o c) as_) fs =
    (f : AttributeForm) × (rest : resolved.Attributes)
    × (fs ≡ resolved.and_attribute (resolved.an_attribute n.text o f) rest)
    × IsContent n.text o s c f × AreAttributes s as_ rest

-- ---- what holds attributes
-- a declared table, its attributes in their order
pub record IsTable (s : Scope) (t : TableSyntax) (m : ModelTable) : Type 0 where
  pub name : m.name ≡ t.name.text
  pub attributes : AreAttributes s t.attributes m.attributes
  pub idents : AreIdents t.attributes t.idents m.idents

-- a topic and its tables in their order, where `above` are the domains outside the topics
pub record IsTopic (above : List DomainSyntax) (t : TopicSyntax) (m : Topic) : Type 0 where
  pub name : m.name ≡ t.name.text
  pub tables : AllZip (IsTable (inside above t)) t.tables m.tables

-- a model and what it stands for
pub record IsModel (written : ModelSyntax) (m : ResolvedModel) : Type 0 where
  pub name : m.name ≡ written.model.text
  pub codes : m.codes ≡ written.codes
  pub topics : AllZip (IsTopic (everywhere written)) written.topics m.topics
