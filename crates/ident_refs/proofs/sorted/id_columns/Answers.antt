use Rattle.std.proofs.Common.{◌∙◌}
use Rattle.ident_refs.specs.declared.repeats.KeyColumn.{KeyColumn}
use Rattle.ident_refs.specs.KeptRows.{ids_of, lines_of}
use Rattle.ident_refs.specs.KeptViews.{kept_view}
use Rattle.ident_refs.proofs.Collecting.{collected}
use Rattle.ident_refs.proofs.sorted.id_columns.Goals as goal

pub loop-table-preserved : goal.loop-table-preserved
loop-table-preserved c = record {
  keys =
      collected (λ (k : KeyColumn). k.keys.now) kept_view ids_of c.loop-table.columns.items
      c.push.new.self.items c.in_ok-new.field-0 c.args.tables.now c.loop-table.table-index
      c.table-item.result
      c.loop-table-test.true c.table-item.is c.in_ok-push.ensures.items (c.in_ok-new.ensures.keys
      ∙ c.deref-in-loop-table.ensures.value) c.loop-table.invariant.keys;
  lines =
      collected (λ (k : KeyColumn). k.lines.now) kept_view lines_of c.loop-table.columns.items
      c.push.new.self.items c.in_ok-new.field-0 c.args.tables.now c.loop-table.table-index
      c.table-item.result
      c.loop-table-test.true c.table-item.is c.in_ok-push.ensures.items (c.in_ok-new.ensures.lines
      ∙ c.deref.ensures.value) c.loop-table.invariant.lines;
}
