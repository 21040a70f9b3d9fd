use Rattle.std.proofs.Common.{◌≡◌, ◌++◌, drop, map}
use Rattle.resolver.specs.Indexed.{idents}
use Rattle.resolver.proofs.scope.name_index.names.Given as goal

abbrev pub invariant-loop-item : goal.invariant-loop-item
invariant-loop-item g l =
    idents l.names.items ++ map g.T.Named.name_of (drop l.item-index l.items)
    ≡ map g.T.Named.name_of l.items
