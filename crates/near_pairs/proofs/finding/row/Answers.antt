use Rattle.std.proofs.Common.{rules, ◌≤ℤ◌, ℤ, FitsSigned, w64, to_z-of_z, sym, subst}
use Rattle.near_pairs.specs.Boxes.{reach_of}
use Rattle.near_pairs.proofs.Rows.{no_item, one_default, known_at, row_more, row_end}
use Rattle.near_pairs.proofs.finding.row.Goals as goal

pub tried-best-requires-clause-known : goal.tried-best-requires-clause-known
tried-best-requires-clause-known g c =
    known_at c.args.boxes.now c.args.column.now c.block-item-items.result.now c.loop-item.item-index
    c.requires.known c.block-item-items.ensures.known c.loop-item-test.true

pub loop-item-preserved : goal.loop-item-preserved
loop-item-preserved g c =
    row_more (g.T.PairTest.sought c.args.test.now) c.args.boxes.now c.args.number
    c.block-item-items.result.now c.args.found c.loop-item.item-index c.loop-item.best
    c.loop-item.invariant c.tried-best.result _ c.loop-item-test.true
    (λ d. one_default c.block-item-items.result.now c.loop-item.item-index d no_item
    c.loop-item-test.true) c.tried-best.ensures.found c.tried-best.ensures.kept
    c.tried-best.ensures.seen

pub returns-clause-seen : goal.returns-clause-seen
returns-clause-seen g c = λ item h b level.
    let low : FitsSigned w64 (reach_of c.args.boxes.now c.args.number).low.x = search rules in
    let high : FitsSigned w64 (reach_of c.args.boxes.now c.args.number).high.x = search rules in
    row_end (g.T.PairTest.sought c.args.test.now) c.args.boxes.now c.args.number
    c.block-item-items.result.now c.args.found c.loop-item.item-index c.loop-item.best
    c.loop-item.invariant c.loop-item-test.false item
    (c.block-item-items.ensures.whole item h
    (subst (λ (z : ℤ). z ≤ℤ item.low_x) (sym (to_z-of_z low)) b.after)
    (subst (λ (z : ℤ). item.low_x ≤ℤ z) (sym (to_z-of_z high)) b.before)) level
