use Rattle.std.proofs.Common.{◌≡◌, List, ap, ◌∙◌}
use Rattle.ili_grammar.specs.declared.syntax.AttributeSyntax as attribute
use Rattle.ili_grammar.specs.declared.syntax.IdentList as list
use Rattle.ili_grammar.specs.Values.{attributes_of, lists_of}
use Rattle.resolver.specs.ScopeViews.{scope_of}
use Rattle.resolver.specs.Models.{attributes, places}
use Rattle.resolver.specs.Values.{attributes_of as resolved_attributes, places_of}
use Rattle.resolver.proofs.build.topics.table.Goals as goal

pub returns : goal.returns
returns c =
    let idents : places_of c.in_ok-ident_places.field-0.items
    ≡ places (attributes_of c.args.written.now.attributes.items)
    (lists_of c.args.written.now.idents.items) =
    c.in_ok-ident_places.ensures
    ∙ ap (λ (l : List attribute.AttributeSyntax). places (attributes_of l)
    (lists_of c.deref-2.result.now)) c.deref.ensures.value
    ∙ ap (λ (l : List list.IdentList). places (attributes_of c.args.written.now.attributes.items)
    (lists_of l)) c.deref-2.ensures.value in
    let own : resolved_attributes c.in_ok-attributes.field-0.items
    ≡ attributes (scope_of c.args.scope.now)
    (attributes_of c.args.written.now.attributes.items) =
    c.in_ok-attributes.ensures
    ∙ ap (λ (l : List attribute.AttributeSyntax). attributes (scope_of c.args.scope.now)
    (attributes_of l)) c.deref-3.ensures.value in
    let name = c.in_ok-new.ensures ∙ c.bytes.ensures in
    λ z. record { name = name z; attributes = own z; idents = idents z }
