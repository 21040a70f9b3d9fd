use Rattle.std.proofs.Common.{arith, ap, sym, subst, ◌∙◌, length}
use Rattle.plane.specs.Runs.Gaps.{gaps_between}
use Rattle.straight_predicates.specs.EdgeLists.{AreBelow}
use Rattle.straight_predicates.specs.Tables.{table_of}
use Rattle.certificate_checker.specs.Cases.{judged}
use Rattle.certificate_checker.specs.Marked.{AreMarked, IsAtBorder, NamesAcross}
use Rattle.certificate_checker.proofs.Closeness.{starting_below}
use Rattle.certificate_checker.proofs.ListParts.{at_note, before_note, notes_of}
use Rattle.certificate_checker.proofs.Moving.{across_event, block_within, border_event, live_below}
use Rattle.certificate_checker.proofs.Moving.{marked_at, marked_more, opened_is}
use Rattle.certificate_checker.proofs.replaying.mark_event.Goals as goal

pub mark_neighbours-requires-clause-lower : goal.mark_neighbours-requires-clause-lower
mark_neighbours-requires-clause-lower c =
    before_note c.deref.result.now c.args.live.now.edges c.position_of-position.result
    c.edge_before-lower.result c.edge_before-lower.ensures
    (notes_of c.deref.result.now (length c.args.case.now.edges.now) c.args.live.now.edges
    (ap length c.deref.ensures.value ∙ c.requires.fit.counts.notes)
    (live_below (judged c.args.case.now) c.requires.fit.table c.requires.fit.counts c.args.event
    (let l = c.requires.event in
    omega (arith, l)) c.requires.passed c.args.live.now.edges c.requires.live))

pub mark_neighbours-requires-clause-upper : goal.mark_neighbours-requires-clause-upper
mark_neighbours-requires-clause-upper c =
    at_note c.deref.result.now c.args.live.now.edges _ c.edge_at-upper.result
    c.edge_at-upper.ensures
    (notes_of c.deref.result.now (length c.args.case.now.edges.now) c.args.live.now.edges
    (ap length c.deref.ensures.value ∙ c.requires.fit.counts.notes)
    (live_below (judged c.args.case.now) c.requires.fit.table c.requires.fit.counts c.args.event
    (let l = c.requires.event in
    omega (arith, l)) c.requires.passed c.args.live.now.edges c.requires.live))

pub mark_neighbours-requires-clause-starting : goal.mark_neighbours-requires-clause-starting
mark_neighbours-requires-clause-starting c =
    notes_of c.deref.result.now (length c.args.case.now.edges.now) c.starting-starting.result.now
    (ap length c.deref.ensures.value ∙ c.requires.fit.counts.notes)
    (subst (AreBelow (length c.args.case.now.edges.now)) (sym c.starting-starting.ensures)
    (starting_below c.args.case.now.edges.now
    (table_of c.args.case.now.table.now) c.args.event c.requires.fit.table c.requires.event))

pub returns-clause-border : goal.returns-clause-border
returns-clause-border c =
    marked_more IsAtBorder border_event
    (judged c.args.case.now) c.args.event c.args.border.now c.mark_neighbours.new.border
    c.mark_neighbours.auto.border c.requires.border
    (subst (λ gs. AreMarked IsAtBorder gs c.args.border.now c.mark_neighbours.new.border)
    (opened_is (judged c.args.case.now) c.requires.fit.table c.requires.fit.counts c.args.event
    c.args.live.now.edges c.starting-starting.result.now c.position_of-position.result _
    c.edge_before-lower.result c.edge_at-upper.result
    c.requires.live c.starting-starting.ensures c.position_of-position.ensures
    (ap length c.ending-ending.ensures)
    (let w = block_within (judged c.args.case.now) c.requires.fit.table c.requires.fit.counts
    c.args.event c.args.live.now.edges c.position_of-position.result _ c.requires.live
    c.position_of-position.ensures (ap length c.ending-ending.ensures) c.requires.passes in
    omega (arith, w))
    c.edge_before-lower.ensures c.edge_at-upper.ensures)
    (marked_at IsAtBorder border_event c.args.event c.edge_before-lower.result
    c.starting-starting.result.now c.edge_at-upper.result c.args.border.now
    c.mark_neighbours.new.border c.mark_neighbours.ensures.border))

pub returns-clause-across : goal.returns-clause-across
returns-clause-across c =
    let N = NamesAcross c.args.case.now.certificate.now.notes.items in
    marked_more N (across_event c.args.case.now.certificate.now.notes.items)
    (judged c.args.case.now) c.args.event c.args.across.now c.mark_neighbours.new.across
    c.mark_neighbours.auto.across c.requires.across
    (subst (λ gs. AreMarked N gs c.args.across.now c.mark_neighbours.new.across)
    (opened_is (judged c.args.case.now) c.requires.fit.table c.requires.fit.counts c.args.event
    c.args.live.now.edges c.starting-starting.result.now c.position_of-position.result _
    c.edge_before-lower.result c.edge_at-upper.result
    c.requires.live c.starting-starting.ensures c.position_of-position.ensures
    (ap length c.ending-ending.ensures)
    (let w = block_within (judged c.args.case.now) c.requires.fit.table c.requires.fit.counts
    c.args.event c.args.live.now.edges c.position_of-position.result _ c.requires.live
    c.position_of-position.ensures (ap length c.ending-ending.ensures) c.requires.passes in
    omega (arith, w))
    c.edge_before-lower.ensures c.edge_at-upper.ensures)
    (marked_at N (across_event c.args.case.now.certificate.now.notes.items) c.args.event
    c.edge_before-lower.result c.starting-starting.result.now c.edge_at-upper.result
    c.args.across.now c.mark_neighbours.new.across
    (subst (λ ns. AreMarked (NamesAcross ns)
    (gaps_between 0 c.edge_before-lower.result c.starting-starting.result.now
    c.edge_at-upper.result) c.args.across.now c.mark_neighbours.new.across)
    c.deref.ensures.value c.mark_neighbours.ensures.across)))
