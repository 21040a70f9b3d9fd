-- The names of attributes and of elements.
use Rattle.ili_grammar.specs.Syntax.{Ident, AttributeSyntax, an_attribute, Element, an_element}

abbrev pub attribute_name : AttributeSyntax → Ident
attribute_name (an_attribute n o c) = n

abbrev pub element_name : Element → Ident
element_name (an_element n parts) = n
