use Rattle.ident_refs.proofs.KeyPlaces.{repeats_step, repeats_end}
use Rattle.ident_refs.proofs.NeighbouringKeys.{nothing_added}
use Rattle.ident_refs.proofs.repeats.KeyColumn.add_repeats.Goals as goal

pub returns-then-are_distinct : goal.returns-then-are_distinct
returns-then-are_distinct c =
    nothing_added c.args.code c.args.column c.args.self.now.lines.now c.args.self.now.keys.now
    c.args.findings.now.items (c.are_distinct.ensures c.if-are_distinct.true)

pub loop-place-preserved : goal.loop-place-preserved
loop-place-preserved c =
    repeats_step c.args.code c.args.column c.loop-place.place c.args.self.now.lines.now
    c.args.self.now.keys.now c.first_before.result _ _ _
    c.loop-place-test.true c.first_before.ensures c.in_ok-add_repeat.ensures c.loop-place.invariant

pub returns : goal.returns
returns c = repeats_end c.args.code c.args.column c.loop-place.place c.args.self.now.lines.now
    c.args.self.now.keys.now _ _ c.loop-place-test.false c.loop-place.invariant
