use Rattle.std.proofs.Common.{rules, arith}
use Rattle.table_layout.specs.Values.{layout_view}
use Rattle.delivery.specs.KeptRows.{transfer_so_far}
use Rattle.delivery.proofs.JudgingSteps.{objects_step, all_counted}
use Rattle.delivery.proofs.KeptSteps.{tables_few}
use Rattle.delivery.proofs.judging.keeping.count_objects.Goals as goal

pub loop-number-preserved : goal.loop-number-preserved
loop-number-preserved g c = record {
  counted = λ rows h.
      let s = objects_step (transfer_so_far (layout_view c.args.layout.now) rows)
      c.loop-number.number in
      let r = c.row_count.ensures (layout_view c.args.layout.now) rows h in
      let i = c.loop-number.invariant.counted rows h in
      omega (arith, s, r, i);
  small = search rules;
}

pub returns : goal.returns
returns g c rows h =
    let a = all_counted (layout_view c.args.layout.now) rows c.loop-number.number
    (tables_few c.args.layout.now.tables.items c.loop-number.number (search rules)) in
    let i = c.loop-number.invariant.counted rows h in
    omega (arith, a, i)
