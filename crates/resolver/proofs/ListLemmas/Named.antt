-- Names that are read one after the other.
use Rattle.std.proofs.Common.{◌≡◌, List, [], ◌∷◌, map, refl, ap, ◌∙◌}
use Rattle.ili_grammar.specs.declared.syntax.AttributeSyntax as attribute
use Rattle.ili_grammar.specs.declared.syntax.Element as element
use Rattle.ili_grammar.specs.declared.syntax.TableSyntax as table
use Rattle.ili_grammar.specs.declared.syntax.TopicSyntax as topic
use Rattle.ili_grammar.specs.Syntax.{Ident, AttributeSyntax, an_attribute, Attributes}
use Rattle.ili_grammar.specs.Syntax.{and_attribute, Element, an_element, Elements, and_element}
use Rattle.ili_grammar.specs.Values.{ident_of, attribute_of, attributes_of, element_of, elements_of}
use Rattle.ili_grammar.specs.Values.{tables_of, topics_of}
use Rattle.resolver.specs.Named.{attribute_name, element_name}
use Rattle.resolver.specs.Rules.{attribute_names, element_names}
use Rattle.resolver.specs.Scopes.{table_names}

first_attribute : (a : AttributeSyntax) (as_ : Attributes)
    → attribute_name a ∷ attribute_names as_ ≡ attribute_names (and_attribute a as_)
first_attribute (an_attribute n o c) as_ = refl

pub attributes_read : (as_ : List attribute.AttributeSyntax)
    → map (λ a. attribute_name (attribute_of a)) as_ ≡ attribute_names (attributes_of as_)
attributes_read [] = refl
attributes_read (a ∷ as_) =
    ap (λ (ns : List Ident). attribute_name (attribute_of a) ∷ ns) (attributes_read as_)
    ∙ first_attribute (attribute_of a) (attributes_of as_)

first_element : (e : Element) (es : Elements)
    → element_name e ∷ element_names es ≡ element_names (and_element e es)
first_element (an_element n parts) es = refl

pub elements_read : (es : List element.Element)
    → map (λ e. element_name (element_of e)) es ≡ element_names (elements_of es)
elements_read [] = refl
elements_read (e ∷ es) =
    ap (λ (ns : List Ident). element_name (element_of e) ∷ ns) (elements_read es)
    ∙ first_element (element_of e) (elements_of es)

pub tables_read : (ts : List table.TableSyntax)
    → map (λ t. ident_of t.name) ts ≡ table_names (tables_of ts)
tables_read [] = refl
tables_read (t ∷ ts) = ap (λ (ns : List Ident). ident_of t.name ∷ ns) (tables_read ts)

pub topics_read : (ts : List topic.TopicSyntax)
    → map (λ t. ident_of t.name) ts ≡ map (λ t. t.name) (topics_of ts)
topics_read [] = refl
topics_read (t ∷ ts) = ap (λ (ns : List Ident). ident_of t.name ∷ ns) (topics_read ts)
