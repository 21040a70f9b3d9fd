use Rattle.std.proofs.Common.{drop, map}
use Rattle.std.specs.List.{flat_map}
use Rattle.ili_grammar.specs.Values.{ident_of, names_of}
use Rattle.resolver.specs.FaultViews.{Leaves}
use Rattle.resolver.specs.NameIndexes.{names_in}
use Rattle.resolver.specs.Scopes.{texts}
use Rattle.resolver.specs.Rules.{no_attribute}
use Rattle.resolver.proofs.rules.names.check_listed_names.Given as goal

abbrev pub invariant-loop-name : goal.invariant-loop-name
invariant-loop-name l =
    Leaves l.fn.earliest l.earliest
    (flat_map (no_attribute (texts (names_in l.attributes))) (names_of l.list))
    (flat_map (no_attribute (texts (names_in l.attributes)))
    (map ident_of (drop l.name-index l.list.names.items)))
