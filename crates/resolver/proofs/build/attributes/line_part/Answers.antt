use Rattle.std.proofs.Common.{List, subst, sym}
use Rattle.ili_grammar.specs.declared.syntax.AttributeSyntax as attribute
use Rattle.ili_grammar.specs.Values.{attributes_of}
use Rattle.resolver.specs.Limits.{AreBounded}
use Rattle.resolver.proofs.BuildLemmas.Bounded.{bounded_line}
use Rattle.resolver.proofs.build.attributes.line_part.Goals as goal

pub line_attributes-requires-clause-attributes : goal.line_attributes-requires-clause-attributes
line_attributes-requires-clause-attributes c =
    subst (λ (l : List attribute.AttributeSyntax). AreBounded (attributes_of l))
    (sym c.deref-3.ensures.value) (bounded_line c.args.line.now c.requires.numbers c.requires.names)

pub ident_places-requires : goal.ident_places-requires
ident_places-requires c =
    subst (λ (l : List attribute.AttributeSyntax). AreBounded (attributes_of l))
    (sym c.deref.ensures.value) (bounded_line c.args.line.now c.requires.numbers c.requires.names)
