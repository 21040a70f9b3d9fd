use Rattle.std.proofs.Common.{◌≡◌, ◌++◌, map, take, drop}
use Rattle.resolver.specs.Faults.{first_from}
use Rattle.resolver.specs.Scopes.{texts}
use Rattle.resolver.specs.Rules.{twice, entry}
use Rattle.resolver.specs.Indexed.{idents}
use Rattle.resolver.specs.NameIndexes.{names_in, names_if}
use Rattle.resolver.specs.FaultViews.{fault_in}
use Rattle.resolver.proofs.scope.name_index.NameIndex.check_unique.Given as goal

abbrev pub invariant-loop-place : goal.invariant-loop-place
invariant-loop-place l =
    first_from (fault_in l.earliest)
    (twice (texts (names_if l.above) ++ take l.place (texts (names_in l.self)))
    (map entry (idents (drop l.place l.self.names.items))))
    ≡ first_from (fault_in l.fn.earliest)
    (twice (texts (names_if l.above)) (map entry (names_in l.self)))
