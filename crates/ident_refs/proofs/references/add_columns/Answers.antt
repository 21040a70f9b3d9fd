use Rattle.std.proofs.Common.{ℕ, List, ◌∙◌, ap, length}
use Rattle.ili_grammar.specs.Values.{codes_of}
use Rattle.ident_refs.proofs.ColumnSteps.{width_below, rest_counted, columns_step}
use Rattle.ident_refs.proofs.references.add_columns.Goals as goal

pub split_at-requires : goal.split_at-requires
split_at-requires c =
    width_below c.loop-place.place c.args.columns.now c.index-columns-place.result
    (length c.loop-place.left.now) c.width.result
    c.loop-place-test.true c.index-columns-place.is c.width.ensures c.loop-place.invariant.counted

pub loop-place-preserved : goal.loop-place-preserved
loop-place-preserved c = record {
  counted =
      ap (λ (ws : List (List ℕ)). length ws) c.split_at.ensures.back
      ∙ rest_counted c.loop-place.place c.args.columns.now c.index-columns-place.result
      c.loop-place.left.now c.width.result
      c.loop-place-test.true c.index-columns-place.is c.width.ensures
      c.loop-place.invariant.counted;
  added =
      columns_step (codes_of c.args.codes.now) c.args.line c.loop-place.place c.args.columns.now
      c.index-columns-place.result
      c.loop-place.left.now c.split_at.result.0.now c.split_at.result.1.now c.width.result _ _ _
      c.loop-place-test.true c.index-columns-place.is c.width.ensures c.split_at.ensures.front
      c.split_at.ensures.back c.in_ok-add_column.ensures c.loop-place.invariant.added;
}
