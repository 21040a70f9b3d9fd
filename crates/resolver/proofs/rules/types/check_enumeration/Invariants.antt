use Rattle.std.proofs.Common.{◌++◌, drop}
use Rattle.ili_grammar.specs.Values.{elements_of}
use Rattle.resolver.specs.FaultViews.{Leaves}
use Rattle.resolver.specs.Rules.{element_names, twice_in, parts_faults}
use Rattle.resolver.proofs.rules.types.check_enumeration.Given as goal

abbrev pub invariant-loop-element : goal.invariant-loop-element
invariant-loop-element l =
    Leaves l.fn.earliest l.earliest (twice_in (element_names (elements_of l.elements))
    ++ parts_faults (elements_of l.elements))
    (parts_faults (elements_of (drop l.element-index l.elements)))
