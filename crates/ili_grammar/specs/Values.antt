-- What is read, without where it lies in memory.
use Rattle.std.specs.Prelude.{List, [], ◌∷◌, map}
use Rattle.std.specs.Option.{option_map}
use Rattle.ili_grammar.specs.declared.syntax.Ident as ident
use Rattle.ili_grammar.specs.declared.syntax.Decimal as decimal
use Rattle.ili_grammar.specs.declared.syntax.Span as span
use Rattle.ili_grammar.specs.declared.syntax.Corners2 as corners2
use Rattle.ili_grammar.specs.declared.syntax.Corners3 as corners3
use Rattle.ili_grammar.specs.declared.syntax.IdentList as list
use Rattle.ili_grammar.specs.declared.syntax.Element as element
use Rattle.ili_grammar.specs.declared.syntax.Element.TheOpen.{Element-F}
use Rattle.ili_grammar.specs.declared.syntax.Element.TheFolds.{fold-Element}
use Rattle.ili_grammar.specs.declared.syntax.AttributeSyntax as attribute
use Rattle.ili_grammar.specs.declared.syntax.Content as content
use Rattle.ili_grammar.specs.declared.syntax.TypeSyntax as kind
use Rattle.ili_grammar.specs.declared.syntax.LineSyntax as line
use Rattle.ili_grammar.specs.declared.syntax.Content.TheOpen as opened
use Rattle.ili_grammar.specs.declared.syntax.Content.TheFolds.{fold-TypeSyntax, fold-LineSyntax}
use Rattle.ili_grammar.specs.declared.syntax.Content.TheFolds.{fold-AttributeSyntax, fold-Content}
use Rattle.ili_grammar.specs.declared.syntax.DomainSyntax as domain
use Rattle.ili_grammar.specs.declared.syntax.TableSyntax as table
use Rattle.ili_grammar.specs.declared.syntax.TopicSyntax as topic
use Rattle.ili_grammar.specs.declared.syntax.Codes as codes
use Rattle.ili_grammar.specs.declared.syntax.ModelSyntax as model
use Rattle.ili_grammar.specs.Syntax.{Ident, Decimal, Span, Corners2, Corners3, Element, an_element}
use Rattle.ili_grammar.specs.Syntax.{Elements, no_elements, and_element, TypeSyntax, Named, Coord2}
use Rattle.ili_grammar.specs.Syntax.{Coord3, Dim1, Dim2, Radians, Grads, Degrees, Range, Text, Date}
use Rattle.ili_grammar.specs.Syntax.{HAlignment, VAlignment, Enumeration, Polyline, Surface, Area}
use Rattle.ili_grammar.specs.Syntax.{LineSyntax, a_line, Attributes, no_attributes, and_attribute}
use Rattle.ili_grammar.specs.Syntax.{AttributeSyntax, an_attribute, Content, Value, Reference}
use Rattle.ili_grammar.specs.Syntax.{DomainSyntax, TableSyntax, TopicSyntax, Codes, ModelSyntax}

abbrev pub ident_of : ident.Ident → Ident
ident_of i = record { text = i.text; line = i.line; column = i.column }

abbrev pub decimal_of : decimal.Decimal → Decimal
decimal_of d = record { digits = d.digits; scale = d.scale; line = d.line; column = d.column }

abbrev pub span_of : span.Span → Span
span_of s = record { low = decimal_of s.low; high = decimal_of s.high }

abbrev pub corners2_of : corners2.Corners2 → Corners2
corners2_of c = record { x = span_of c.x; y = span_of c.y }

abbrev pub corners3_of : corners3.Corners3 → Corners3
corners3_of c = record { x = span_of c.x; y = span_of c.y; z = span_of c.z }

abbrev pub names_of : list.IdentList → List Ident
names_of l = map ident_of l.names.items

abbrev pub lists_of : List list.IdentList → List (List Ident)
lists_of ls = map names_of ls

-- ---- elements
abbrev pub elements_in : List Element → Elements
elements_in [] = no_elements
elements_in (e ∷ es) = and_element e (elements_in es)

abbrev pub element_step : Element-F Element → Element
element_step e = an_element (ident_of e.name) (elements_in e.parts.items)

abbrev pub element_of : element.Element → Element
element_of = fold-Element Element element_step

abbrev pub elements_of : List element.Element → Elements
elements_of es = elements_in (map element_of es)

-- ---- types, lines and attributes
abbrev pub attributes_in : List AttributeSyntax → Attributes
attributes_in [] = no_attributes
attributes_in (a ∷ as_) = and_attribute a (attributes_in as_)

abbrev pub content_step : opened.Content-F Content TypeSyntax AttributeSyntax LineSyntax → Content
content_step (opened.Value t) = Value t
content_step (opened.Reference n) = Reference (ident_of n)

abbrev pub type_step : opened.TypeSyntax-F Content TypeSyntax AttributeSyntax LineSyntax
    → TypeSyntax
type_step (opened.Named n) = Named (ident_of n)
type_step (opened.Coord2 c) = Coord2 (corners2_of c)
type_step (opened.Coord3 c) = Coord3 (corners3_of c)
type_step (opened.Dim1 s) = Dim1 (span_of s)
type_step (opened.Dim2 s) = Dim2 (span_of s)
type_step (opened.Radians s) = Radians (span_of s)
type_step (opened.Grads s) = Grads (span_of s)
type_step (opened.Degrees s) = Degrees (span_of s)
type_step (opened.Range s) = Range (span_of s)
type_step (opened.Text d) = Text (decimal_of d)
type_step opened.Date = Date
type_step (opened.Enumeration es) = Enumeration (elements_of es.items)
type_step opened.HAlignment = HAlignment
type_step opened.VAlignment = VAlignment
type_step (opened.Polyline l) = Polyline l
type_step (opened.Surface l) = Surface l
type_step (opened.Area l) = Area l

abbrev pub line_step : opened.LineSyntax-F Content TypeSyntax AttributeSyntax LineSyntax
    → LineSyntax
line_step l =
    a_line
    (record {
      straights = l.straights;
      arcs = l.arcs;
      vertex = ident_of l.vertex;
      overlap = option_map decimal_of l.overlap;
    })
    (attributes_in l.attributes.items) (lists_of l.idents.items)

abbrev pub attribute_step : opened.AttributeSyntax-F Content TypeSyntax AttributeSyntax LineSyntax
    → AttributeSyntax
attribute_step a = an_attribute (ident_of a.name) a.optional a.content

abbrev pub type_of : kind.TypeSyntax → TypeSyntax
type_of =
    fold-TypeSyntax Content TypeSyntax AttributeSyntax LineSyntax content_step type_step
    attribute_step line_step

abbrev pub line_of : line.LineSyntax → LineSyntax
line_of =
    fold-LineSyntax Content TypeSyntax AttributeSyntax LineSyntax content_step type_step
    attribute_step line_step

abbrev pub attribute_of : attribute.AttributeSyntax → AttributeSyntax
attribute_of =
    fold-AttributeSyntax Content TypeSyntax AttributeSyntax LineSyntax content_step type_step
    attribute_step line_step

abbrev pub content_of : content.Content → Content
content_of =
    fold-Content Content TypeSyntax AttributeSyntax LineSyntax content_step type_step attribute_step
    line_step

abbrev pub attributes_of : List attribute.AttributeSyntax → Attributes
attributes_of as_ = attributes_in (map attribute_of as_)

-- ---- what holds types
abbrev pub domain_of : domain.DomainSyntax → DomainSyntax
domain_of d = record { name = ident_of d.name; kind = type_of d.kind }

abbrev pub domains_of : List domain.DomainSyntax → List DomainSyntax
domains_of ds = map domain_of ds

abbrev pub table_of : table.TableSyntax → TableSyntax
table_of t =
    record {
      name = ident_of t.name;
      optional = t.optional;
      attributes = attributes_of t.attributes.items;
      idents = lists_of t.idents.items;
    }

abbrev pub tables_of : List table.TableSyntax → List TableSyntax
tables_of ts = map table_of ts

abbrev pub topic_of : topic.TopicSyntax → TopicSyntax
topic_of t =
    record {
      name = ident_of t.name;
      domains = domains_of t.domains.items;
      tables = tables_of t.tables.items;
    }

abbrev pub topics_of : List topic.TopicSyntax → List TopicSyntax
topics_of ts = map topic_of ts

abbrev pub codes_of : codes.Codes → Codes
codes_of c = record { blank = c.blank; undefined = c.undefined; continued = c.continued }

abbrev pub model_of : model.ModelSyntax → ModelSyntax
model_of m =
    record {
      transfer = ident_of m.transfer;
      outer = domains_of m.outer.items;
      model = ident_of m.model;
      domains = domains_of m.domains.items;
      topics = topics_of m.topics.items;
      codes = codes_of m.codes;
    }
