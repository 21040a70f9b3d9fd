use Rattle.std.proofs.Common.{◌-◌}
use Rattle.certificate.specs.Spelling.{pairs, ArePaired}
use Rattle.certificate.specs.Feeding.{LeadsTo, IsLeft, more_at}
use Rattle.certificate.specs.Reading.{line_at}
use Rattle.certificate.specs.Views.{text_view}
use Rattle.certificate.specs.Parts.{edge_at}
use Rattle.certificate.proofs.sections.add_notes.Given as goal

abbrev pub invariant-loop-i : goal.invariant-loop-i
invariant-loop-i l = record {
  paired : ArePaired l.notes.items;
  on : LeadsTo (more_at (line_at edge_at) (pairs l.fn.notes.items) l.count)
      (more_at (line_at edge_at) (pairs l.notes.items) (l.count - l.i)) (text_view l.fn.text)
      (text_view l.left);
  left : IsLeft (text_view l.fn.text) (text_view l.left);
}
