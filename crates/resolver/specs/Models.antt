-- What a model without fault stands for. Where a rule is broken it is some model, which is never
-- answered.
use Rattle.std.specs.Prelude.{ℕ, ℤ, pos, unsigned_abs, Bool, cond, ◌||◌, List, map, Option, Some}
use Rattle.std.specs.Prelude.{None}
use Rattle.std.specs.Option.{unwrap_or, option_map}
use Rattle.ili_grammar.specs.Syntax as syntax
use Rattle.ili_grammar.specs.Syntax.{Ident, Decimal, Span, Corners2, Corners3, LineHead, LineSyntax}
use Rattle.ili_grammar.specs.Syntax.{a_line, Attributes, no_attributes, and_attribute}
use Rattle.ili_grammar.specs.Syntax.{AttributeSyntax, an_attribute, Content, Value, TypeSyntax}
use Rattle.ili_grammar.specs.Syntax.{Named, TableSyntax, TopicSyntax, ModelSyntax, DomainSyntax}
use Rattle.resolver.specs.Resolved as resolved
use Rattle.resolver.specs.Resolved.{Limits, Window, Block, Form, LineForm, AttributeForm, LinePart}
use Rattle.resolver.specs.Resolved.{ModelTable, Topic, ResolvedModel}
use Rattle.resolver.specs.Numbers.{scale_of, in_units, is_long, is_reversed, has_long_bound}
use Rattle.resolver.specs.Numbers.{is_text_length, leaves}
use Rattle.resolver.specs.Lines.{is_coord}
use Rattle.resolver.specs.Scopes.{Scope, Meaning, texts, place, everywhere, inside, meaning, meant}
use Rattle.resolver.specs.Rules.{attribute_names}

-- ---- numbers
abbrev pub no_limits : Limits
no_limits = record { low = pos 0; high = pos 0; scale = 0 }

-- the bounds that are written; none where they break a rule
abbrev pub limits : ℕ → Span → Limits
limits scale s =
    cond (is_reversed scale s || has_long_bound scale s) no_limits
    (record { low = in_units scale s.low; high = in_units scale s.high; scale = scale })

abbrev pub window : ℕ → Corners2 → Window
window scale c = record { x = limits scale c.x; y = limits scale c.y }

abbrev pub block : ℕ → Corners3 → Block
block scale c = record { x = limits scale c.x; y = limits scale c.y; z = limits scale c.z }

-- a greatest number of bytes; none where it breaks a rule
abbrev pub text_length : Decimal → ℕ
text_length d = cond (is_text_length d) (unsigned_abs d.digits) 0

-- ---- values
abbrev pub form : TypeSyntax → Form
form (syntax.Coord2 c) = resolved.Coord2 (window (scale_of (syntax.Coord2 c)) c)
form (syntax.Coord3 c) = resolved.Coord3 (block (scale_of (syntax.Coord3 c)) c)
form (syntax.Dim1 s) = resolved.Dim1 (limits (scale_of (syntax.Dim1 s)) s)
form (syntax.Dim2 s) = resolved.Dim2 (limits (scale_of (syntax.Dim2 s)) s)
form (syntax.Radians s) = resolved.Radians (limits (scale_of (syntax.Radians s)) s)
form (syntax.Grads s) = resolved.Grads (limits (scale_of (syntax.Grads s)) s)
form (syntax.Degrees s) = resolved.Degrees (limits (scale_of (syntax.Degrees s)) s)
form (syntax.Range s) = resolved.Range (limits (scale_of (syntax.Range s)) s)
form (syntax.Text d) = resolved.Text (text_length d)
form syntax.Date = resolved.Date
form syntax.HAlignment = resolved.HAlignment
form syntax.VAlignment = resolved.VAlignment
form (syntax.Enumeration es) = resolved.Enumeration (leaves es)
form _ = resolved.Date

abbrev pub form_of_meaning : Option Meaning → Form
form_of_meaning None = resolved.Date
form_of_meaning (Some m) = form m.kind

-- a reference, by the number of the table
abbrev pub reference : Scope → Ident → Form
reference s n = resolved.Reference (unwrap_or (place n.text s.tables) 0)

abbrev pub value : Scope → Content → Form
value s (Value t) = form_of_meaning (meant s t)
value s (syntax.Reference n) = reference s n

-- ---- IDENT lists, by the numbers of the attributes
abbrev pub numbers : List (List ℕ) → List Ident → List ℕ
numbers attributes names = map (λ n. unwrap_or (place n.text attributes) 0) names

abbrev pub places : Attributes → List (List Ident) → List (List ℕ)
places as_ lists = map (numbers (texts (attribute_names as_))) lists

-- ---- lines

-- where x and y of vertices of a type lie
abbrev pub window_in : TypeSyntax → Window
window_in (syntax.Coord2 c) = window (scale_of (syntax.Coord2 c)) c
window_in (syntax.Coord3 c) =
    record {
      x = limits (scale_of (syntax.Coord3 c)) c.x;
      y = limits (scale_of (syntax.Coord3 c)) c.y;
    }
window_in _ = record { x = no_limits; y = no_limits }

-- where their heights lie, if they have any
abbrev pub heights_in : TypeSyntax → Option Limits
heights_in (syntax.Coord3 c) = Some (limits (scale_of (syntax.Coord3 c)) c.z)
heights_in _ = None

abbrev pub vertex_scale : TypeSyntax → ℕ
vertex_scale kind = cond (is_coord kind) (scale_of kind) 0

-- an overlap at a scale; none where it is too long
abbrev pub overlap_at : ℕ → Decimal → ℤ
overlap_at scale d = cond (is_long scale d) (pos 0) (in_units scale d)

-- the type of the vertices; one without coordinates where they have none
abbrev pub vertex_kind : Option Meaning → TypeSyntax
vertex_kind None = syntax.Date
vertex_kind (Some m) = m.kind

-- a line of the attribute of that name, whose vertices are of this type
abbrev pub line_with : List ℕ → Bool → LineHead → TypeSyntax → LineForm
line_with name optional head kind =
    record {
      name = name;
      optional = optional;
      arcs = head.arcs;
      window = window_in kind;
      height = heights_in kind;
      overlap = option_map (overlap_at (vertex_scale kind)) head.overlap;
    }

-- the same, in the scope where the line is written
abbrev pub line_form : List ℕ → Bool → Scope → LineSyntax → LineForm
line_form name optional s (a_line head as_ lists) =
    line_with name optional head (vertex_kind (meaning s head.vertex.text))

-- the attributes of a line are values and references
abbrev pub line_attribute : Scope → AttributeSyntax → resolved.Attribute
line_attribute s (an_attribute n o c) = resolved.an_attribute n.text o (resolved.Value (value s c))

abbrev pub line_attributes : Scope → Attributes → resolved.Attributes
line_attributes s no_attributes = resolved.no_attributes
line_attributes s (and_attribute a as_) =
    resolved.and_attribute (line_attribute s a) (line_attributes s as_)

abbrev pub line_part : Scope → LineSyntax → LinePart
line_part s (a_line head as_ lists) = resolved.a_part (line_attributes s as_) (places as_ lists)

-- ---- attributes of tables
abbrev pub type_form : List ℕ → Bool → Scope → TypeSyntax → AttributeForm
type_form name optional s (syntax.Polyline l) = resolved.Polyline (line_form name optional s l)
type_form name optional s (syntax.Surface l) =
    resolved.Surface (line_form name optional s l) (line_part s l)
type_form name optional s (syntax.Area l) =
    resolved.Area (line_form name optional s l) (line_part s l)
type_form name optional s kind = resolved.Value (form kind)

abbrev pub meaning_form : List ℕ → Bool → Option Meaning → AttributeForm
meaning_form name optional None = resolved.Value resolved.Date
meaning_form name optional (Some m) = type_form name optional m.scope m.kind

abbrev pub content_form : Scope → List ℕ → Bool → Content → AttributeForm
content_form s name optional (Value t) = meaning_form name optional (meant s t)
content_form s name optional (syntax.Reference n) = resolved.Value (reference s n)

abbrev pub attribute : Scope → AttributeSyntax → resolved.Attribute
attribute s (an_attribute n o c) = resolved.an_attribute n.text o (content_form s n.text o c)

abbrev pub attributes : Scope → Attributes → resolved.Attributes
attributes s no_attributes = resolved.no_attributes
attributes s (and_attribute a as_) = resolved.and_attribute (attribute s a) (attributes s as_)

-- ---- what holds attributes
abbrev pub table : Scope → TableSyntax → ModelTable
table s t =
    record {
      name = t.name.text;
      attributes = attributes s t.attributes;
      idents = places t.attributes t.idents;
    }

-- a topic in its scope
abbrev pub topic_in : Scope → TopicSyntax → Topic
topic_in s t = record { name = t.name.text; tables = map (table s) t.tables }

abbrev pub topic : List DomainSyntax → TopicSyntax → Topic
topic above t = topic_in (inside above t) t

abbrev pub resolved_model : ModelSyntax → ResolvedModel
resolved_model m =
    record { name = m.model.text; codes = m.codes; topics = map (topic (everywhere m)) m.topics }
