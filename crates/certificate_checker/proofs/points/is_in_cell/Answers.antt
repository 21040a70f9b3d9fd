use Rattle.std.proofs.Common.{IsTrue, rules, arith, ap, length, ◌∙◌, ◌-◌}
use Rattle.certificate_checker.proofs.ListParts.{one_note}
use Rattle.certificate_checker.proofs.points.is_in_cell.Goals as goal

pub are_both-requires-clause-lower : goal.are_both-requires-clause-lower
are_both-requires-clause-lower c =
    let t : IsTrue c.is_inside.result = search rules in
    let b = c.is_inside.ensures.0 t in
    let l = c.len.ensures in
    let k = c.requires.known (c.args.place - 1) (omega (arith, b, l)) in
    let g = c.get-3.ensures 0 in
    let n = ap length c.deref-notes.ensures.value ∙ c.requires.fit.counts.notes in
    one_note c.deref-notes.result.now c.get-3.result (omega (arith, k, g, n))

pub are_both-requires-clause-upper : goal.are_both-requires-clause-upper
are_both-requires-clause-upper c =
    let t : IsTrue c.is_inside.result = search rules in
    let b = c.is_inside.ensures.0 t in
    let l = c.len.ensures in
    let k = c.requires.known c.args.place (omega (arith, b, l)) in
    let g = c.get-4.ensures 0 in
    let n = ap length c.deref-notes.ensures.value ∙ c.requires.fit.counts.notes in
    one_note c.deref-notes.result.now c.get-4.result (omega (arith, k, g, n))
