use Rattle.std.proofs.Common.{◌≡◌, ◌+◌, ◌-◌, ◌<◌, length, take}
use Rattle.straight_predicates.specs.Chunks.{joined}
use Rattle.certificate_checker.proofs.places.find.Given as goal

abbrev pub invariant-loop-block : goal.invariant-loop-block
invariant-loop-block l = record {
  known : l.block < length l.blocks;
  is : length (joined (take l.block l.blocks)) + l.offset ≡ l.place;
}

abbrev pub decreases-loop-block : goal.decreases-loop-block
decreases-loop-block l = length l.blocks - l.block
