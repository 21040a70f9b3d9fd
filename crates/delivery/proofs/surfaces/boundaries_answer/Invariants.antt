use Rattle.std.proofs.Common.{◌≤◌}
use Rattle.delivery.specs.ObjectLines.{drawn, objects_view}
use Rattle.delivery.proofs.SurfaceSteps.{AreCounted}
use Rattle.delivery.proofs.surfaces.boundaries_answer.Given as goal

abbrev pub invariant-loop-place : goal.invariant-loop-place
invariant-loop-place l = record {
  counted : AreCounted l.all (drawn (objects_view l.objects) l.lines) l.place l.held l.skipped;
  few_held : l.held ≤ l.place;
  few_skipped : l.skipped ≤ l.place;
}
