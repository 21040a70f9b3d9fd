use Rattle.std.proofs.Common.{◌-◌}
use Rattle.certificate.specs.Feeding.{LeadsTo, IsLeft, more_at}
use Rattle.certificate.specs.Reading.{line_at}
use Rattle.certificate.specs.Views.{text_view}
use Rattle.certificate.specs.Parts.{place_at}
use Rattle.certificate.proofs.sections.add_places.Given as goal

abbrev pub invariant-loop-i : goal.invariant-loop-i
invariant-loop-i l = record {
  on : LeadsTo (more_at (line_at place_at) l.fn.places.items l.count)
      (more_at (line_at place_at) l.places.items (l.count - l.i)) (text_view l.fn.text)
      (text_view l.left);
  left : IsLeft (text_view l.fn.text) (text_view l.left);
}
