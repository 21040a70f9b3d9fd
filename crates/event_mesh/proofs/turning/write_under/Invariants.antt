use Rattle.std.proofs.Common.{◌≡◌, ℕ, ◌+◌, ◌<◌, length, slice_index}
use Rattle.event_mesh.specs.Fans.{IsUnder}
use Rattle.event_mesh.proofs.turning.write_under.Given as goal

abbrev pub invariant-loop-j : goal.invariant-loop-j
invariant-loop-j l = record {
  written : IsUnder l.ending l.fan l.j;
  before : (i : ℕ) → i + l.j < length l.fn.fan → slice_index l.fan i ≡ slice_index l.fn.fan i;
}
