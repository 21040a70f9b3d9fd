use Rattle.std.proofs.Common.{◌≡◌, IsTrue, length}
use Rattle.itf_lines.specs.Fields.{fields}
use Rattle.itf_lines.specs.Fronts.{begins_with_field}
use Rattle.itf_lines.specs.Pass.{open_line_view, with_others}
use Rattle.itf_lines.proofs.partial.PartialLine.add_others.Given as goal

-- the fields so far and those of the rest are those of all
abbrev pub invariant-loop-rest : goal.invariant-loop-rest
invariant-loop-rest l = record {
  front : IsTrue (begins_with_field l.rest);
  fields : with_others (open_line_view l.self) (fields l.rest)
      ≡ with_others (open_line_view l.fn.self) (fields l.text);
}

abbrev pub decreases-loop-rest : goal.decreases-loop-rest
decreases-loop-rest l = length l.rest
