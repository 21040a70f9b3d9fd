use Rattle.std.proofs.Common.{List, map, refl, ◌∙◌}
use Rattle.ili_grammar.specs.declared.syntax.IdentList as list
use Rattle.ili_grammar.specs.Values.{lists_of}
use Rattle.resolver.specs.declared.models.Places.{Places}
use Rattle.resolver.specs.NameIndexes.{names_in}
use Rattle.resolver.specs.Scopes.{texts}
use Rattle.resolver.specs.Models.{numbers}
use Rattle.resolver.proofs.ListLemmas.Folds.{next_viewed, all_pushed}
use Rattle.resolver.proofs.build.values.places.Goals as goal

pub loop-list-preserved : goal.loop-list-preserved
loop-list-preserved c =
    next_viewed (λ (l : List list.IdentList). map (numbers (texts (names_in c.args.attributes.now)))
    (lists_of l)) (λ (p : Places). p.places.items) _ _ _ _ _ _ _ _
    (λ rest. refl) refl c.loop-list-test.true c.list-item.is c.in_ok-push.ensures.items
    c.in_ok-list_places.ensures
    ∙ c.loop-list.invariant

pub returns : goal.returns
returns c =
    all_pushed (λ (l : List list.IdentList). map (numbers (texts (names_in c.args.attributes.now)))
    (lists_of l)) c.loop-list.list-index c.args.lists.now
    (map (λ (p : Places). p.places.items) c.loop-list.places.items)
    refl c.loop-list-test.false c.loop-list.invariant
