use Rattle.std.proofs.Common.{◌≡◌, ◌+◌, ◌-◌, ◌^◌, ◌≤◌, min, drop}
use Rattle.ili_grammar.specs.Values.{elements_of}
use Rattle.resolver.specs.Numbers.{leaves}
use Rattle.resolver.proofs.leaves.leaves.Given as goal

abbrev pub invariant-loop-element : goal.invariant-loop-element
invariant-loop-element l = record {
  counted : min (l.count + leaves (elements_of (drop l.element-index l.elements))) (2 ^ 32 - 1)
      ≡ min (leaves (elements_of l.elements)) (2 ^ 32 - 1);
  few : l.count ≤ 2 ^ 32 - 1;
}
