use Rattle.std.proofs.Common.{◌≡◌, ◌++◌, drop}
use Rattle.resolver.specs.Values.{places_of}
use Rattle.table_layout.specs.Attributes.{lists_at}
use Rattle.table_layout.proofs.idents.located_lists.Given as goal

abbrev pub invariant-loop-list : goal.invariant-loop-list
invariant-loop-list l =
    places_of l.kept.items ++ lists_at l.places (places_of (drop l.list-index l.lists))
    ≡ lists_at l.places (places_of l.lists)
