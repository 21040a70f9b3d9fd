use Rattle.std.proofs.Common.{drop}
use Rattle.ili_grammar.specs.Values.{lists_of}
use Rattle.resolver.specs.FaultViews.{Leaves}
use Rattle.resolver.specs.NameIndexes.{names_in}
use Rattle.resolver.specs.Scopes.{texts}
use Rattle.resolver.specs.Rules.{lists_faults}
use Rattle.resolver.proofs.rules.names.check_lists.Given as goal

abbrev pub invariant-loop-list : goal.invariant-loop-list
invariant-loop-list l =
    Leaves l.fn.earliest l.earliest
    (lists_faults (texts (names_in l.attributes)) (lists_of l.lists))
    (lists_faults (texts (names_in l.attributes)) (lists_of (drop l.list-index l.lists)))
