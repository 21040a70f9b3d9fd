-- The numbers so far, before those of the lines that are left.
use Rattle.std.proofs.Common.{◌≡◌, ◌++◌, drop}
use Rattle.delivery.specs.LinkJoins.{RiseFrom, numbered}
use Rattle.delivery.proofs.link_pairs.numbered.Given as goal

abbrev pub invariant-loop-line : goal.invariant-loop-line
invariant-loop-line l = record {
  numbers : l.numbers.items ++ numbered l.count (drop l.line-index l.lines) l.left
      ≡ numbered 0 l.lines l.points;
  rise : RiseFrom l.count (drop l.line-index l.lines);
}
