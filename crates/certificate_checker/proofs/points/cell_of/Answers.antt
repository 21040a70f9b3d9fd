use Rattle.std.proofs.Common.{rules, IsTrue, false, ◌≡◌, ◌∙◌, sym}
use Rattle.certificate_checker.specs.Cases.{judged}
use Rattle.certificate_checker.proofs.InCellLemmas.{event_none, tests_none, tests_some}
use Rattle.certificate_checker.proofs.ListParts.{unfit}
use Rattle.certificate_checker.proofs.points.cell_of.Goals as goal

pub returns-then-is_at : goal.returns-then-is_at
returns-then-is_at c =
    let h : IsTrue c.is_at.result = search rules in
    event_none (judged c.args.case.now) c.requires.fit.table c.requires.fit.counts c.args.event
    c.requires.event c.args.spot.number c.requires.spot.strip c.args.live.now.edges c.requires.live
    c.args.upto c.args.spot.at c.requires.spot.point.at c.requires.next (c.is_at.ensures.0 h)

pub returns-then-not-is_in_cell : goal.returns-then-not-is_in_cell
returns-then-not-is_in_cell c =
    let h : c.is_in_cell.result ≡ false = search rules in
    tests_none (judged c.args.case.now) c.requires.fit.table c.requires.fit.counts c.args.event
    c.requires.event c.args.spot.number c.requires.spot.strip c.args.live.now.edges c.requires.live
    c.in-Cell.position (sym c.place_of.ensures ∙ c.in-Cell.is)
    (unfit c.is_in_cell.result c.is_in_cell.ensures h)

pub returns : goal.returns
returns c =
    let g : c.is_at.result ≡ false = search rules in
    let h : IsTrue c.is_in_cell.result = search rules in
    tests_some (judged c.args.case.now) c.requires.fit.table c.requires.fit.counts c.args.event
    c.requires.event c.args.spot.number c.requires.spot.strip c.args.live.now.edges c.requires.live
    c.args.upto c.args.spot.at c.in-Cell.position c.requires.spot.point.at c.requires.next
    (sym c.place_of.ensures ∙ c.in-Cell.is) (unfit c.is_at.result c.is_at.ensures g)
    (c.is_in_cell.ensures.0 h)
