use Rattle.certificate_checker.proofs.ListParts.{at_note, before_note}
use Rattle.certificate_checker.proofs.labels.labels_match.Goals as goal

pub label_over-label-requires-clause-edge : goal.label_over-label-requires-clause-edge
label_over-label-requires-clause-edge c =
    before_note c.args.notes.now c.args.live.now.edges c.args.position _ c.edge_before-lower.ensures
    c.requires.live

pub label_under-last-requires-clause-edge : goal.label_under-last-requires-clause-edge
label_under-last-requires-clause-edge c =
    at_note c.args.notes.now c.args.live.now.edges _ _ c.edge_at-upper.ensures c.requires.live
