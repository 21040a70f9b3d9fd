use Rattle.std.proofs.Common.{◌≡◌}
use Rattle.delivery.specs.ObjectLines.{no_lines, objects_view}
use Rattle.delivery.proofs.surfaces.no_objects.Given as goal

abbrev pub invariant-loop : goal.invariant-loop
invariant-loop l = objects_view l.objects.items ≡ no_lines l.counter
