use Rattle.std.proofs.Common.{ap, ◌∙◌, subst}
use Rattle.ili_grammar.specs.Values.{codes_of}
use Rattle.table_layout.specs.Layouts.{Table}
use Rattle.table_layout.specs.Values.{table_view}
use Rattle.itf_reader.specs.Views.{row_of}
use Rattle.delivery.specs.KeptRows.{Found}
use Rattle.delivery.specs.KeptViews.{AreReadAs}
use Rattle.delivery.proofs.KeptSteps.{kept_next}
use Rattle.delivery.proofs.area_drawing.places_of.Goals as goal

pub loop-row-init : goal.loop-row-init
loop-row-init c =
    let codes = codes_of c.args.codes.now in
    record {
      table = ap (λ (f : Found). f.table) (c.in_ok-read.ensures codes);
      kept = c.in_ok-kept.ensures codes;
    }

pub loop-row-preserved : goal.loop-row-preserved
loop-row-preserved c =
    let i = c.loop-row.invariant in
    let codes = codes_of c.args.codes.now in
    let values = c.add_row.new.values in
    record {
      table = ap (λ (f : Found). f.table) c.in_ok-add_row.ensures.found ∙ i.table;
      kept =
          kept_next codes (table_view c.args.table.now) c.args.rows.now c.loop-row.row-index
          c.row-item.result values _ _ c.loop-row-test.true c.row-item.is i.kept
          (subst (λ (t : Table). AreReadAs codes t (row_of c.row-item.result) values) i.table
          c.in_ok-add_row.ensures.read)
          c.in_ok-add_row-2.ensures;
    }
