use Rattle.std.proofs.Common.{◌↔◌, ◌+◌, drop}
use Rattle.plane.specs.Faces.Labels.{Match}
use Rattle.plane.specs.Runs.Gaps.{edge_at, edge_before, over_label, under_label}
use Rattle.certificate_checker.specs.Subjects.{labels_in}
use Rattle.certificate_checker.proofs.labels.labels_match.Given as goal

abbrev pub invariant-loop-e : goal.invariant-loop-e
invariant-loop-e l =
    Match (labels_in l.notes) (over_label (labels_in l.notes) (edge_before l.live.edges l.position))
    l.starting (under_label (labels_in l.notes) (edge_at l.live.edges (l.position + l.ending)))
    ↔ Match (labels_in l.notes) l.label (drop l.e-index l.starting)
    (under_label (labels_in l.notes) (edge_at l.live.edges (l.position + l.ending)))
