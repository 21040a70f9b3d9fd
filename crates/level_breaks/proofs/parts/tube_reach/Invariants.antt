use Rattle.std.proofs.Common.{◌≤◌, length}
use Rattle.near_pairs.specs.Boxes.{box_of}
use Rattle.level_breaks.specs.Parts.{HoldsStart, HoldsTubePart}
use Rattle.level_breaks.specs.Stretches.{IsPlaced}
use Rattle.level_breaks.proofs.parts.tube_reach.Given as goal

abbrev pub invariant-loop-number : goal.invariant-loop-number
invariant-loop-number l = record {
  placed : IsPlaced (HoldsTubePart l.curve l.tube (box_of l.reach)) l.from l.number;
  begins : l.number ≤ length l.tube.outer.items
      → HoldsStart l.curve l.tube (box_of l.reach) l.number;
}
