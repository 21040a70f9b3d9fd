use Rattle.std.proofs.Common.{drop}
use Rattle.ili_grammar.specs.declared.syntax.Element.TheViews.{out-Element}
use Rattle.ili_grammar.specs.Values.{element_of, elements_of}
use Rattle.resolver.specs.FaultViews.{Leaves}
use Rattle.resolver.specs.Rules.{element_faults, parts_faults}
use Rattle.resolver.proofs.rules.types.+check_parts.Given as goal

abbrev pub invariant-loop-part : goal.invariant-loop-part
invariant-loop-part l =
    Leaves l.fn.earliest l.earliest (element_faults (element_of l.element))
    (parts_faults (elements_of (drop l.part-index (out-Element l.element).parts.items)))
