use Rattle.std.proofs.Common.{◌≡◌, ◌++◌, drop, map}
use Rattle.ili_grammar.specs.Values.{ident_of, names_of}
use Rattle.resolver.specs.NameIndexes.{names_in}
use Rattle.resolver.specs.Scopes.{texts}
use Rattle.resolver.specs.Models.{numbers}
use Rattle.resolver.proofs.build.values.list_places.Given as goal

abbrev pub invariant-loop-name : goal.invariant-loop-name
invariant-loop-name l =
    l.places.items ++ numbers (texts (names_in l.attributes))
    (map ident_of (drop l.name-index l.list.names.items))
    ≡ numbers (texts (names_in l.attributes)) (names_of l.list)
