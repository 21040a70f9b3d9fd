use Rattle.std.proofs.Common.{◌-◌}
use Rattle.certificate.specs.Feeding.{LeadsTo, IsLeft, more_at}
use Rattle.certificate.specs.Reading.{line_at}
use Rattle.certificate.specs.Views.{text_view}
use Rattle.certificate.specs.Parts.{event_at}
use Rattle.certificate.proofs.sections.add_positions.Given as goal

abbrev pub invariant-loop-i : goal.invariant-loop-i
invariant-loop-i l = record {
  on : LeadsTo (more_at (line_at event_at) l.fn.positions.items l.count)
      (more_at (line_at event_at) l.positions.items (l.count - l.i)) (text_view l.fn.text)
      (text_view l.left);
  left : IsLeft (text_view l.fn.text) (text_view l.left);
}
