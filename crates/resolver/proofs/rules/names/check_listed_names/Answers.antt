use Rattle.std.proofs.Common.{List, ◌∙◌, map, refl}
use Rattle.std.specs.List.{flat_map}
use Rattle.ili_grammar.specs.declared.syntax.Ident as ident
use Rattle.ili_grammar.specs.Values.{ident_of}
use Rattle.resolver.specs.NameIndexes.{names_in}
use Rattle.resolver.specs.Scopes.{texts}
use Rattle.resolver.specs.Rules.{no_attribute}
use Rattle.resolver.proofs.ListLemmas.Folds.{told_over}
use Rattle.resolver.proofs.rules.names.check_listed_names.Goals as goal

pub loop-name-preserved : goal.loop-name-preserved
loop-name-preserved c =
    told_over (λ (l : List ident.Ident). flat_map
    (no_attribute (texts (names_in c.args.attributes.now))) (map ident_of l)) _ _ _ _ _ _ _
    (λ rest. refl) c.deref-name-items.ensures.value c.loop-name-test.true c.name-item.is
    c.check_listed_name.ensures
    ∙ c.loop-name.invariant
