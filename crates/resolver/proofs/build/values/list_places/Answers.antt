use Rattle.std.proofs.Common.{ℕ, List, [], ◌∷◌, ◌++◌, map, ap, refl, ◌∙◌}
use Rattle.std.specs.Option.{unwrap_or}
use Rattle.ili_grammar.specs.declared.syntax.Ident as ident
use Rattle.ili_grammar.specs.Values.{ident_of}
use Rattle.resolver.specs.NameIndexes.{names_in}
use Rattle.resolver.specs.Scopes.{place, texts}
use Rattle.resolver.specs.Models.{numbers}
use Rattle.resolver.proofs.ListLemmas.Folds.{next_pushed}
use Rattle.resolver.proofs.build.values.list_places.Goals as goal

pub loop-name-preserved : goal.loop-name-preserved
loop-name-preserved c =
    next_pushed (λ (l : List ident.Ident). numbers (texts (names_in c.args.attributes.now))
    (map ident_of l)) _ _ _ _ _ _ _ (λ rest. refl) c.deref-name-items.ensures.value
    c.loop-name-test.true c.name-item.is
    (c.in_ok-push.ensures.items
    ∙ ap (λ (n : ℕ). c.loop-name.places.items ++ (n ∷ [])) (c.number.ensures
    ∙ ap (λ (t : List ℕ). unwrap_or (place t (texts (names_in c.args.attributes.now))) 0)
    c.bytes.ensures))
    ∙ c.loop-name.invariant
