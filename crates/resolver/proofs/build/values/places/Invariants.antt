use Rattle.std.proofs.Common.{◌≡◌, ◌++◌, drop, map}
use Rattle.ili_grammar.specs.Values.{lists_of}
use Rattle.resolver.specs.NameIndexes.{names_in}
use Rattle.resolver.specs.Scopes.{texts}
use Rattle.resolver.specs.Models.{numbers}
use Rattle.resolver.specs.Values.{places_of}
use Rattle.resolver.proofs.build.values.places.Given as goal

abbrev pub invariant-loop-list : goal.invariant-loop-list
invariant-loop-list l =
    places_of l.places.items ++ map (numbers (texts (names_in l.attributes)))
    (lists_of (drop l.list-index l.lists))
    ≡ map (numbers (texts (names_in l.attributes))) (lists_of l.lists)
