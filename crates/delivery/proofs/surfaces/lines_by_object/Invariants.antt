use Rattle.std.proofs.Common.{◌≡◌, ◌≤◌, drop, length}
use Rattle.itf_reader.specs.RowReadings.{vertices_view}
use Rattle.ident_refs.specs.KeptViews.{named_view}
use Rattle.area_drawings.specs.KeptDrawings.{cut, total}
use Rattle.delivery.specs.ObjectLines.{grouped, named_rows, no_lines, objects_view}
use Rattle.delivery.proofs.surfaces.lines_by_object.Given as goal

abbrev pub invariant-loop-number : goal.invariant-loop-number
invariant-loop-number l = record {
  counted : total (drop l.number l.counts) ≤ length l.rest;
  whole : grouped (drop l.number (named_rows (named_view l.named)))
      (cut (drop l.number l.counts) (vertices_view l.rest)) (objects_view l.lines.items)
      ≡ grouped (named_rows (named_view l.named)) (cut l.counts (vertices_view l.fn.vertices))
      (no_lines l.fn.objects);
}
