use Rattle.std.proofs.Common.{◌≡◌, ◌+◌, ◌-◌, ◌^◌, ◌≤◌, min, drop}
use Rattle.ili_grammar.specs.Values.{elements_of}
use Rattle.resolver.specs.Numbers.{leaves}
use Rattle.resolver.proofs.leaves.+leaves_in.Given as goal

abbrev pub invariant-loop-part : goal.invariant-loop-part
invariant-loop-part l = record {
  counted : min (l.count + leaves (elements_of (drop l.part-index l.part-items))) (2 ^ 32 - 1)
      ≡ min (leaves (elements_of l.part-items)) (2 ^ 32 - 1);
  few : l.count ≤ 2 ^ 32 - 1;
}
