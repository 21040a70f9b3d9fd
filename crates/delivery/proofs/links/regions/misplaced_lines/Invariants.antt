use Rattle.std.proofs.Common.{◌≡◌, ◌++◌, drop}
use Rattle.delivery.specs.LinkRegions.{lines_by, regions_left}
use Rattle.delivery.proofs.links.regions.misplaced_lines.Given as goal

abbrev pub invariant-loop-pair : goal.invariant-loop-pair
invariant-loop-pair l = record {
  lines : l.lines.items ++ lines_by l.drawing.window (drop l.pair-index l.pairs) l.rest
      ≡ lines_by l.drawing.window l.pairs l.regions;
  left : regions_left l.drawing.window (drop l.pair-index l.pairs) l.rest
      ≡ regions_left l.drawing.window l.pairs l.regions;
}
