use Rattle.std.proofs.Common.{◌≡◌, ◌∙◌, ◌∷◌, ◌++◌, [], List, ap, sym, subst, length, map}
use Rattle.itf_lines.specs.LogicalLines.{LogicalLine}
use Rattle.itf_reader.specs.Layouts.{wanted_of}
use Rattle.itf_reader.specs.Views.{rows_of, tables_rows_of}
use Rattle.itf_reader.specs.declared.transfer.Row.{Row as CodeRow}
use Rattle.itf_reader.specs.declared.transfer.TableRows.{TableRows as CodeRows}
use Rattle.table_layout.specs.ByTopic.{AreByTopic}
use Rattle.table_layout.specs.Values.{table_view, tables_view}
use Rattle.table_layout.specs.declared.layouts.Table.{Table as CodeTable}
use Rattle.file_pages.proofs.Steps.{wrote_as, wrote_then, wrote_nothing}
use Rattle.itf_writer.specs.Runs.{lines_text, table_run, run_lines}
use Rattle.itf_writer.proofs.Flat.{run_more, run_ends}
use Rattle.itf_writer.proofs.RunLemmas.{run_is}
use Rattle.itf_writer.proofs.tables.put_tables.Goals as goal

pub loop-table-init : goal.loop-table-init
loop-table-init g c = record {
  by_topic = (0, c.requires);
  put = (
    [],
    wrote_nothing,
    ap (lines_text c.args.code)
        (run_is c.args.topics.now (tables_view c.args.tables.now)
        (tables_rows_of c.args.transfer.now) c.requires),
  );
}

pub put_in_topic-current-requires : goal.put_in_topic-current-requires
put_in_topic-current-requires g c =
    let b = c.loop-table.invariant.by_topic in
    (subst (λ (ts : List CodeTable). AreByTopic b.0 (length c.args.topics.now) (tables_view ts))
    c.in-Some.ensures.first b.1).1

pub loop-table-preserved : goal.loop-table-preserved
loop-table-preserved g c =
    let b = c.loop-table.invariant.by_topic in
    let w = c.loop-table.invariant.put in
    let names = c.args.topics.now in
    let t = wanted_of (table_view c.in-Some.table.now) in
    let ts = map wanted_of (tables_view c.in-Some.tables.now) in
    let others = tables_rows_of c.in-Some.transfer.now in
    let rest = subst (λ (ts : List CodeTable). AreByTopic b.0 (length names) (tables_view ts))
    c.in-Some.ensures.first b.1 in
    let left : run_lines names c.loop-table.current (t ∷ ts) (rows_of c.deref.result.now ∷ others)
    ≡ run_lines names c.loop-table.current
    (map wanted_of (tables_view c.loop-table.tables_left.now))
    (tables_rows_of c.loop-table.rows_left.now) =
    ap (λ (rows : List CodeRow). run_lines names c.loop-table.current (t ∷ ts)
    (rows_of rows ∷ others)) c.deref.ensures.value
    ∙ (ap (λ (rs : List CodeRows). run_lines names c.loop-table.current (t ∷ ts)
    (tables_rows_of rs)) (sym c.in-Some.ensures.rows)
    ∙ ap (λ (xs : List CodeTable). run_lines names c.loop-table.current
    (map wanted_of (tables_view xs)) (tables_rows_of c.loop-table.rows_left.now))
    (sym c.in-Some.ensures.first)) in
    record {
      by_topic = (c.in-Some.table.now.topic, rest.2);
      put = (
        w.0 ++ lines_text c.args.code
            (table_run names c.loop-table.current t (rows_of c.deref.result.now)),
        wrote_then w.1 c.put_in_topic-current.ensures.wrote,
        run_more c.args.code w.0 names c.loop-table.current t ts
            (rows_of c.deref.result.now) others c.put_in_topic-current.result
            c.put_in_topic-current.ensures.current
            ∙ (ap (λ (ls : List LogicalLine). w.0 ++ lines_text c.args.code ls) left ∙ w.2),
      );
    }

pub returns : goal.returns
returns g c =
    let w = c.loop-table.invariant.put in
    let e = run_ends c.args.topics.now c.loop-table.current c.loop-table.tables_left.now
    c.loop-table.rows_left.now c.in_default.ensures.none in
    wrote_as (ap (λ (ls : List LogicalLine). w.0 ++ lines_text c.args.code ls) (sym e) ∙ w.2)
    (wrote_then w.1 c.put_closing.ensures)
