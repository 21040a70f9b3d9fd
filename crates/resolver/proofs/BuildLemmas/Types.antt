-- Types and lines, one part judged after the other.
use Rattle.std.proofs.Common.{◌≡◌, ℕ, ◌+◌, ◌<◌, List, ◌++◌, length, drop, get_or, Option, refl, ap}
use Rattle.std.proofs.Common.{sym, subst, ◌∙◌}
use Rattle.std.specs.Option.{option_map}
use Rattle.ili_grammar.specs.declared.syntax.Element as element
use Rattle.ili_grammar.specs.declared.syntax.Element.TheViews.{out-Element}
use Rattle.ili_grammar.specs.declared.syntax.Element.TheFolds.{fold_out-Element}
use Rattle.ili_grammar.specs.declared.syntax.AttributeSyntax as attribute
use Rattle.ili_grammar.specs.declared.syntax.LineSyntax as line
use Rattle.ili_grammar.specs.declared.syntax.IdentList as list
use Rattle.ili_grammar.specs.declared.syntax.Content.TheViews.{out-AttributeSyntax, out-LineSyntax}
use Rattle.ili_grammar.specs.declared.syntax.Content.TheFolds.{fold_out-AttributeSyntax}
use Rattle.ili_grammar.specs.declared.syntax.Content.TheFolds.{fold_out-LineSyntax}
use Rattle.ili_grammar.specs.Syntax.{Ident, Element, an_element, Content, TypeSyntax}
use Rattle.ili_grammar.specs.Syntax.{AttributeSyntax, an_attribute, LineSyntax, a_line}
use Rattle.ili_grammar.specs.Values.{ident_of, decimal_of, element_of, elements_of, element_step}
use Rattle.ili_grammar.specs.Values.{line_of, attribute_of, attributes_of, lists_of, content_of}
use Rattle.ili_grammar.specs.Values.{content_step, type_step, attribute_step, line_step}
use Rattle.resolver.specs.declared.shape.Shape.{Shape}
use Rattle.resolver.specs.Faults.{Fault, first_from}
use Rattle.resolver.specs.Scopes.{Scope}
use Rattle.ili_grammar.specs.Limits.{IsSmallLine, IsSmallAttribute, AreSmallAttributes}
use Rattle.resolver.specs.Rules.{twice_in, element_names, element_faults, parts_faults}
use Rattle.resolver.specs.Rules.{vertex_faults, names_faults, line_attribute_faults}
use Rattle.resolver.specs.Rules.{attributes_faults, line_faults}
use Rattle.resolver.proofs.ListLemmas.Folds.{first_append, list_from}

pub element_out : (e : element.Element)
    → element_of e ≡ an_element (ident_of (out-Element e).name)
    (elements_of (out-Element e).parts.items)
element_out = fold_out-Element Element element_step

pub attribute_out : (a : attribute.AttributeSyntax)
    → attribute_of a ≡ an_attribute (ident_of (out-AttributeSyntax a).name)
    (out-AttributeSyntax a).optional (content_of (out-AttributeSyntax a).content)
attribute_out =
    fold_out-AttributeSyntax Content TypeSyntax AttributeSyntax LineSyntax content_step type_step
    attribute_step line_step

pub line_out : (l : line.LineSyntax)
    → line_of l ≡ a_line (record {
      straights = (out-LineSyntax l).straights;
      arcs = (out-LineSyntax l).arcs;
      vertex = ident_of (out-LineSyntax l).vertex;
      overlap = option_map decimal_of (out-LineSyntax l).overlap;
    })
    (attributes_of (out-LineSyntax l).attributes.items) (lists_of (out-LineSyntax l).idents.items)
line_out = fold_out-LineSyntax Content TypeSyntax AttributeSyntax LineSyntax content_step type_step
    attribute_step line_step

-- the elements of a list were judged, and now the lists within them are
pub parts_begin : (e : element.Element) (read : List element.Element) (before after : Option Fault)
    → read ≡ (out-Element e).parts.items
    → after ≡ first_from before (twice_in (element_names (elements_of read)))
    → first_from after (parts_faults (elements_of (out-Element e).parts.items))
    ≡ first_from before (element_faults (element_of e))
parts_begin e read before after r t =
    let parts : List element.Element = (out-Element e).parts.items in
    ap (λ (b : Option Fault). first_from b (parts_faults (elements_of parts))) (t
    ∙ ap (λ (l : List element.Element). first_from before
    (twice_in (element_names (elements_of l)))) r)
    ∙ sym (first_append before (twice_in (element_names (elements_of parts)))
    (parts_faults (elements_of parts)))
    ∙ ap (λ (x : Element). first_from before (element_faults x)) (sym (element_out e))

-- a line's vertices, names and own lines were judged, and now its attributes are
pub line_begin : (s : Scope) (owner : Ident) (shape : Shape) (l : line.LineSyntax)
    (reads : List attribute.AttributeSyntax) (lists : List list.IdentList)
    (rest : List attribute.AttributeSyntax) (before vertex names lines : Option Fault)
    → reads ≡ (out-LineSyntax l).attributes.items → lists ≡ (out-LineSyntax l).idents.items
    → rest ≡ (out-LineSyntax l).attributes.items
    → vertex ≡ first_from before
    (vertex_faults s owner shape (ident_of (out-LineSyntax l).vertex)
    (option_map decimal_of (out-LineSyntax l).overlap))
    → names ≡ first_from vertex (names_faults (attributes_of reads) (lists_of lists))
    → lines ≡ first_from names (line_attribute_faults s (attributes_of rest))
    → first_from lines (attributes_faults s (attributes_of (out-LineSyntax l).attributes.items))
    ≡ first_from before (line_faults s owner shape (line_of l))
line_begin s owner shape l reads lists rest before vertex names lines a b d v n k =
    let as_ : List attribute.AttributeSyntax = (out-LineSyntax l).attributes.items in
    let ls : List list.IdentList = (out-LineSyntax l).idents.items in
    let vs : List Fault = vertex_faults s owner shape (ident_of (out-LineSyntax l).vertex)
    (option_map decimal_of (out-LineSyntax l).overlap) in
    let ns : List Fault = names_faults (attributes_of as_) (lists_of ls) in
    let ks : List Fault = line_attribute_faults s (attributes_of as_) in
    let fs : List Fault = attributes_faults s (attributes_of as_) in
    let second : names ≡ first_from vertex ns = n
    ∙ ap (λ (x : List attribute.AttributeSyntax). first_from vertex
    (names_faults (attributes_of x) (lists_of lists))) a
    ∙ ap (λ (x : List list.IdentList). first_from vertex
    (names_faults (attributes_of as_) (lists_of x))) b in
    let third : lines ≡ first_from names ks = k
    ∙ ap (λ (x : List attribute.AttributeSyntax). first_from names
    (line_attribute_faults s (attributes_of x))) d in
    ap (λ (o : Option Fault). first_from o fs) third
    ∙ sym (first_append names ks fs)
    ∙ ap (λ (o : Option Fault). first_from o (ks ++ fs)) second
    ∙ sym (first_append vertex ns (ks ++ fs))
    ∙ ap (λ (o : Option Fault). first_from o (ns ++ (ks ++ fs))) v
    ∙ sym (first_append before vs (ns ++ (ks ++ fs)))
    ∙ ap (λ (x : LineSyntax). first_from before (line_faults s owner shape x)) (sym (line_out l))

pub short_behind : (i : ℕ) (xs read : List attribute.AttributeSyntax)
    (x : attribute.AttributeSyntax)
    → read ≡ xs → i < length read → x ≡ get_or read i x
    → AreSmallAttributes (attributes_of (drop i xs))
    → IsSmallAttribute (attribute_of x) × AreSmallAttributes (attributes_of (drop (i + 1) xs))
short_behind i xs read x r lt at h =
    subst (λ (l : List attribute.AttributeSyntax). AreSmallAttributes (attributes_of l))
    (list_from i xs read x r lt at) h

pub short_first : (i : ℕ) (xs : List attribute.AttributeSyntax) (x : attribute.AttributeSyntax)
    → AreSmallAttributes (attributes_of (drop i xs)) → i < length xs → x ≡ get_or xs i x
    → IsSmallAttribute (attribute_of x)
short_first i xs x h lt at = (short_behind i xs xs x refl lt at h).0

pub short_read : (l : line.LineSyntax) (read : List attribute.AttributeSyntax)
    → read ≡ (out-LineSyntax l).attributes.items → IsSmallLine (line_of l)
    → AreSmallAttributes (attributes_of read)
short_read l read r h =
    let parts = subst IsSmallLine (line_out l) h in
    subst (λ (xs : List attribute.AttributeSyntax). AreSmallAttributes (attributes_of xs))
    (sym r) parts.1
