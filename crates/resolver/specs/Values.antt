-- What is resolved, without where it lies in memory.
use Rattle.std.specs.Prelude.{ℕ, List, [], ◌∷◌, map}
use Rattle.std.specs.Option.{option_map}
use Rattle.ili_grammar.specs.Values.{codes_of}
use Rattle.resolver.specs.declared.models.Limits as limits
use Rattle.resolver.specs.declared.models.Window as window
use Rattle.resolver.specs.declared.models.Block as block
use Rattle.resolver.specs.declared.models.Form as form
use Rattle.resolver.specs.declared.models.Form.TheVariants as forms
use Rattle.resolver.specs.declared.models.LineForm as line
use Rattle.resolver.specs.declared.models.Places as places
use Rattle.resolver.specs.declared.models.Attribute as attribute
use Rattle.resolver.specs.declared.models.AttributeForm as content
use Rattle.resolver.specs.declared.models.LinePart as part
use Rattle.resolver.specs.declared.models.AttributeForm.TheOpen as opened
use Rattle.resolver.specs.declared.models.AttributeForm.TheFolds.{fold-Attribute}
use Rattle.resolver.specs.declared.models.AttributeForm.TheFolds.{fold-AttributeForm, fold-LinePart}
use Rattle.resolver.specs.declared.models.ModelTable as table
use Rattle.resolver.specs.declared.models.Topic as topic
use Rattle.resolver.specs.declared.models.ResolvedModel as model
use Rattle.resolver.specs.Resolved.{Limits, Window, Block, Form, Range, Dim1, Dim2, Radians, Grads}
use Rattle.resolver.specs.Resolved.{Degrees, Coord2, AreaPoint, Coord3, Text, Enumeration}
use Rattle.resolver.specs.Resolved.{Reference, Date, HAlignment, VAlignment, LineForm, Attribute}
use Rattle.resolver.specs.Resolved.{an_attribute, AttributeForm, Value, Polyline, Surface, Area}
use Rattle.resolver.specs.Resolved.{LinePart, a_part, Attributes, no_attributes, and_attribute}
use Rattle.resolver.specs.Resolved.{ModelTable, Topic, ResolvedModel}

abbrev pub limits_of : limits.Limits → Limits
limits_of l = record { low = l.low; high = l.high; scale = l.scale }

abbrev pub window_of : window.Window → Window
window_of w = record { x = limits_of w.x; y = limits_of w.y }

abbrev pub block_of : block.Block → Block
block_of b = record { x = limits_of b.x; y = limits_of b.y; z = limits_of b.z }

abbrev pub form_of : form.Form → Form
form_of (forms.Range l) = Range (limits_of l)
form_of (forms.Coord2 w) = Coord2 (window_of w)
form_of (forms.Coord3 b) = Coord3 (block_of b)
form_of (forms.Dim1 l) = Dim1 (limits_of l)
form_of (forms.Dim2 l) = Dim2 (limits_of l)
form_of (forms.Radians l) = Radians (limits_of l)
form_of (forms.Grads l) = Grads (limits_of l)
form_of (forms.Degrees l) = Degrees (limits_of l)
form_of (forms.Text n) = Text n
form_of forms.Date = Date
form_of (forms.Enumeration n) = Enumeration n
form_of forms.HAlignment = HAlignment
form_of forms.VAlignment = VAlignment
form_of (forms.Reference k) = Reference k
form_of (forms.AreaPoint w) = AreaPoint (window_of w)

abbrev pub line_of : line.LineForm → LineForm
line_of l =
    record {
      name = l.name;
      optional = l.optional;
      arcs = l.arcs;
      window = window_of l.window;
      height = option_map limits_of l.height;
      overlap = l.overlap;
    }

abbrev pub places_of : List places.Places → List (List ℕ)
places_of ps = map (λ p. p.places.items) ps

-- ---- attributes
abbrev pub attributes_in : List Attribute → Attributes
attributes_in [] = no_attributes
attributes_in (a ∷ as_) = and_attribute a (attributes_in as_)

abbrev pub content_step : opened.AttributeForm-F AttributeForm Attribute LinePart → AttributeForm
content_step (opened.Value f) = Value (form_of f)
content_step (opened.Polyline l) = Polyline (line_of l)
content_step (opened.Surface l p) = Surface (line_of l) p
content_step (opened.Area l p) = Area (line_of l) p

abbrev pub attribute_step : opened.Attribute-F AttributeForm Attribute LinePart → Attribute
attribute_step a = an_attribute a.name a.optional a.content

abbrev pub part_step : opened.LinePart-F AttributeForm Attribute LinePart → LinePart
part_step p = a_part (attributes_in p.attributes.items) (places_of p.idents.items)

abbrev pub attribute_of : attribute.Attribute → Attribute
attribute_of = fold-Attribute AttributeForm Attribute LinePart content_step attribute_step part_step

abbrev pub content_of : content.AttributeForm → AttributeForm
content_of =
    fold-AttributeForm AttributeForm Attribute LinePart content_step attribute_step part_step

abbrev pub part_of : part.LinePart → LinePart
part_of = fold-LinePart AttributeForm Attribute LinePart content_step attribute_step part_step

abbrev pub attributes_of : List attribute.Attribute → Attributes
attributes_of as_ = attributes_in (map attribute_of as_)

-- ---- what holds attributes
abbrev pub table_of : table.ModelTable → ModelTable
table_of t =
    record {
      name = t.name;
      attributes = attributes_of t.attributes.items;
      idents = places_of t.idents.items;
    }

abbrev pub tables_of : List table.ModelTable → List ModelTable
tables_of ts = map table_of ts

abbrev pub topic_of : topic.Topic → Topic
topic_of t = record { name = t.name; tables = tables_of t.tables.items }

abbrev pub topics_of : List topic.Topic → List Topic
topics_of ts = map topic_of ts

abbrev pub model_of : model.ResolvedModel → ResolvedModel
model_of m = record { name = m.name; codes = codes_of m.codes; topics = topics_of m.topics.items }
