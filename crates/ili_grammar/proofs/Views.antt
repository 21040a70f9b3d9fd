-- The equations of the views of types, lines, attributes and their contents.
use Rattle.std.proofs.Common.{Vec, ◌≡◌, List, [], ◌∙◌}
use denote.Hole.Carrier.{roll}
use Rattle.std.specs.Option.{option_map}
use Rattle.ili_grammar.specs.declared.syntax.Content.TheOpen as opened
use Rattle.ili_grammar.specs.declared.syntax.Content.TheViews.{roll-TypeSyntax, roll-LineSyntax}
use Rattle.ili_grammar.specs.declared.syntax.Content.TheViews.{roll-AttributeSyntax, roll-Content}
use Rattle.ili_grammar.specs.declared.syntax.Content.TheFolds.{fold-roll-TypeSyntax}
use Rattle.ili_grammar.specs.declared.syntax.Content.TheFolds.{fold-roll-LineSyntax}
use Rattle.ili_grammar.specs.declared.syntax.Content.TheFolds.{fold-roll-AttributeSyntax}
use Rattle.ili_grammar.specs.declared.syntax.Content.TheFolds.{fold-roll-Content}
use Rattle.ili_grammar.specs.declared.syntax.AttributeSyntax as attribute
use Rattle.ili_grammar.specs.declared.syntax.Content as content
use Rattle.ili_grammar.specs.declared.syntax.Content.TheVariants as contents
use Rattle.ili_grammar.specs.declared.syntax.TypeSyntax.TheVariants as kinds
use Rattle.ili_grammar.specs.declared.syntax.Ident as ident
use Rattle.ili_grammar.specs.declared.syntax.Decimal as decimal
use Rattle.ili_grammar.specs.declared.syntax.Span as span
use Rattle.ili_grammar.specs.declared.syntax.Corners2 as corners2
use Rattle.ili_grammar.specs.declared.syntax.Corners3 as corners3
use Rattle.ili_grammar.specs.declared.syntax.Element as element
use Rattle.ili_grammar.specs.declared.syntax.IdentList as list
use Rattle.ili_grammar.specs.declared.syntax.TypeSyntax as kind
use Rattle.ili_grammar.specs.declared.syntax.LineSyntax as line
use Rattle.ili_grammar.specs.Syntax.{Named, Coord2, Coord3, Dim1, Dim2, Radians, Grads, Degrees}
use Rattle.ili_grammar.specs.Syntax.{Range, Text, Date, HAlignment, VAlignment, Enumeration}
use Rattle.ili_grammar.specs.Syntax.{Polyline, Surface, Area, Value, Reference, TypeSyntax}
use Rattle.ili_grammar.specs.Syntax.{LineHead, LineSyntax, a_line, no_attributes, AttributeSyntax}
use Rattle.ili_grammar.specs.Syntax.{an_attribute, Content}
use Rattle.ili_grammar.specs.Values.{type_of, span_of, corners2_of, corners3_of, elements_of}
use Rattle.ili_grammar.specs.Values.{ident_of, decimal_of, lists_of, content_step, type_step}
use Rattle.ili_grammar.specs.Values.{attribute_step, line_step, line_of, attribute_of, content_of}
use Rattle.ili_grammar.specs.Values.{attributes_of}

pub line_roll : (x : opened.LineSyntax-F content.Content kind.TypeSyntax attribute.AttributeSyntax
    line.LineSyntax)
    → line_of (roll-LineSyntax x) ≡ a_line (record {
      straights = x.straights;
      arcs = x.arcs;
      vertex = ident_of x.vertex;
      overlap = option_map decimal_of x.overlap;
    })
    (attributes_of x.attributes.items) (lists_of x.idents.items)
line_roll = fold-roll-LineSyntax Content TypeSyntax AttributeSyntax LineSyntax content_step
    type_step attribute_step line_step

pub attribute_roll : (x : opened.AttributeSyntax-F content.Content kind.TypeSyntax
    attribute.AttributeSyntax line.LineSyntax)
    → attribute_of (roll-AttributeSyntax x)
    ≡ an_attribute (ident_of x.name) x.optional (content_of x.content)
attribute_roll =
    fold-roll-AttributeSyntax Content TypeSyntax AttributeSyntax LineSyntax content_step type_step
    attribute_step line_step

-- a line without a LINEATTR part
pub bare : (x : LineSyntax) (l : LineHead) (bs : List attribute.AttributeSyntax)
    (ls : List list.IdentList)
    → x ≡ a_line l (attributes_of bs) (lists_of ls) → bs ≡ [] → ls ≡ []
    → x ≡ a_line l no_attributes []
bare x l bs ls e p q = e ∙ (λ z. a_line l (attributes_of (p z)) (lists_of (q z)))

-- ---- types and contents, variant by variant
pub type-named : (n : ident.Ident) → type_of (kinds.Named n) ≡ Named (ident_of n)
unfolding roll-TypeSyntax roll
type-named n =
    fold-roll-TypeSyntax Content TypeSyntax AttributeSyntax LineSyntax content_step type_step
    attribute_step line_step (opened.Named n)

pub type-coord2 : (c : corners2.Corners2) → type_of (kinds.Coord2 c) ≡ Coord2 (corners2_of c)
unfolding roll-TypeSyntax roll
type-coord2 c =
    fold-roll-TypeSyntax Content TypeSyntax AttributeSyntax LineSyntax content_step type_step
    attribute_step line_step (opened.Coord2 c)

pub type-coord3 : (c : corners3.Corners3) → type_of (kinds.Coord3 c) ≡ Coord3 (corners3_of c)
unfolding roll-TypeSyntax roll
type-coord3 c =
    fold-roll-TypeSyntax Content TypeSyntax AttributeSyntax LineSyntax content_step type_step
    attribute_step line_step (opened.Coord3 c)

pub type-dim1 : (s : span.Span) → type_of (kinds.Dim1 s) ≡ Dim1 (span_of s)
unfolding roll-TypeSyntax roll
type-dim1 s =
    fold-roll-TypeSyntax Content TypeSyntax AttributeSyntax LineSyntax content_step type_step
    attribute_step line_step (opened.Dim1 s)

pub type-dim2 : (s : span.Span) → type_of (kinds.Dim2 s) ≡ Dim2 (span_of s)
unfolding roll-TypeSyntax roll
type-dim2 s =
    fold-roll-TypeSyntax Content TypeSyntax AttributeSyntax LineSyntax content_step type_step
    attribute_step line_step (opened.Dim2 s)

pub type-radians : (s : span.Span) → type_of (kinds.Radians s) ≡ Radians (span_of s)
unfolding roll-TypeSyntax roll
type-radians s =
    fold-roll-TypeSyntax Content TypeSyntax AttributeSyntax LineSyntax content_step type_step
    attribute_step line_step (opened.Radians s)

pub type-grads : (s : span.Span) → type_of (kinds.Grads s) ≡ Grads (span_of s)
unfolding roll-TypeSyntax roll
type-grads s =
    fold-roll-TypeSyntax Content TypeSyntax AttributeSyntax LineSyntax content_step type_step
    attribute_step line_step (opened.Grads s)

pub type-degrees : (s : span.Span) → type_of (kinds.Degrees s) ≡ Degrees (span_of s)
unfolding roll-TypeSyntax roll
type-degrees s =
    fold-roll-TypeSyntax Content TypeSyntax AttributeSyntax LineSyntax content_step type_step
    attribute_step line_step (opened.Degrees s)

pub type-range : (s : span.Span) → type_of (kinds.Range s) ≡ Range (span_of s)
unfolding roll-TypeSyntax roll
type-range s =
    fold-roll-TypeSyntax Content TypeSyntax AttributeSyntax LineSyntax content_step type_step
    attribute_step line_step (opened.Range s)

pub type-text : (d : decimal.Decimal) → type_of (kinds.Text d) ≡ Text (decimal_of d)
unfolding roll-TypeSyntax roll
type-text d =
    fold-roll-TypeSyntax Content TypeSyntax AttributeSyntax LineSyntax content_step type_step
    attribute_step line_step (opened.Text d)

pub type-polyline : (l : line.LineSyntax) → type_of (kinds.Polyline l) ≡ Polyline (line_of l)
unfolding roll-TypeSyntax roll
type-polyline l =
    fold-roll-TypeSyntax Content TypeSyntax AttributeSyntax LineSyntax content_step type_step
    attribute_step line_step (opened.Polyline l)

pub type-surface : (l : line.LineSyntax) → type_of (kinds.Surface l) ≡ Surface (line_of l)
unfolding roll-TypeSyntax roll
type-surface l =
    fold-roll-TypeSyntax Content TypeSyntax AttributeSyntax LineSyntax content_step type_step
    attribute_step line_step (opened.Surface l)

pub type-area : (l : line.LineSyntax) → type_of (kinds.Area l) ≡ Area (line_of l)
unfolding roll-TypeSyntax roll
type-area l =
    fold-roll-TypeSyntax Content TypeSyntax AttributeSyntax LineSyntax content_step type_step
    attribute_step line_step (opened.Area l)

pub type-date : type_of kinds.Date ≡ Date
unfolding roll-TypeSyntax roll
type-date = fold-roll-TypeSyntax Content TypeSyntax AttributeSyntax LineSyntax content_step
    type_step attribute_step line_step opened.Date

pub type-halignment : type_of kinds.HAlignment ≡ HAlignment
unfolding roll-TypeSyntax roll
type-halignment =
    fold-roll-TypeSyntax Content TypeSyntax AttributeSyntax LineSyntax content_step type_step
    attribute_step line_step opened.HAlignment

pub type-valignment : type_of kinds.VAlignment ≡ VAlignment
unfolding roll-TypeSyntax roll
type-valignment =
    fold-roll-TypeSyntax Content TypeSyntax AttributeSyntax LineSyntax content_step type_step
    attribute_step line_step opened.VAlignment

pub type-enumeration : (es : Vec element.Element _)
    → type_of (kinds.Enumeration es) ≡ Enumeration (elements_of es.items)
unfolding roll-TypeSyntax roll
type-enumeration es =
    fold-roll-TypeSyntax Content TypeSyntax AttributeSyntax LineSyntax content_step type_step
    attribute_step line_step (opened.Enumeration es)

pub content-value : (t : kind.TypeSyntax) → content_of (contents.Value t) ≡ Value (type_of t)
unfolding roll-Content roll
content-value t =
    fold-roll-Content Content TypeSyntax AttributeSyntax LineSyntax content_step type_step
    attribute_step line_step (opened.Value t)

pub content-reference : (n : ident.Ident)
    → content_of (contents.Reference n) ≡ Reference (ident_of n)
unfolding roll-Content roll
content-reference n =
    fold-roll-Content Content TypeSyntax AttributeSyntax LineSyntax content_step type_step
    attribute_step line_step (opened.Reference n)
