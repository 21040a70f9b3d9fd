use Rattle.std.proofs.Common.{◌≡◌, ◌++◌, subst}
use Rattle.std.proofs.lemmas.Slice.Zip.{either_empty_from_Zip, Zip-more}
use Rattle.std.specs.Iterator.Adapters.{zip_first, zip_second}
use Rattle.std.specs.Slice.Iter.{iter_rest}
use Rattle.itf_reader.specs.Findings.{findings_of}
use Rattle.ili_grammar.specs.Values.{codes_of}
use Rattle.itf_reader.specs.Views.{rows_of}
use Rattle.table_layout.specs.Values.{table_view}
use Rattle.table_layout.specs.declared.layouts.Table.{Table}
use Rattle.domain_rules.specs.ValueFindings.{table_findings}
use Rattle.domain_rules.proofs.Zipped.{all_found, tables_end, first_few, others_few, tables_step}
use Rattle.domain_rules.proofs.values.add_tables.Goals as goal

pub new-requires : goal.new-requires
new-requires c =
    let more = Zip-more c.loop-table.table-iterator c.next.new.self c.next.result _ c.in-Some.is
    c.next.ensures.steps in
    first_few _ c.in-Some.table.now (iter_rest (zip_first c.next.new.self)) more.0
    c.loop-table.invariant.few

pub loop-table-preserved : goal.loop-table-preserved
loop-table-preserved c =
    let more = Zip-more c.loop-table.table-iterator c.next.new.self c.next.result _ c.in-Some.is
    c.next.ensures.steps in
    record {
      can_next = (tt, tt);
      is_finite = tt;
      few = others_few _ c.in-Some.table.now
          (iter_rest (zip_first c.next.new.self)) more.0 c.loop-table.invariant.few;
      findings = tables_step (codes_of c.args.codes.now) _ c.in-Some.table.now
          (iter_rest (zip_first c.next.new.self)) _ c.in-Some.objects.now
          (iter_rest (zip_second c.next.new.self)) c.deref.result.now
          (findings_of c.loop-table.findings.items)
          (findings_of c.add_rows.new.findings.items) _ more.0 more.1 c.deref.ensures.value
          (subst (λ (t : Table). findings_of c.add_rows.new.findings.items
          ≡ findings_of c.loop-table.findings.items
          ++ table_findings (codes_of c.args.codes.now) (table_view t)
          (rows_of c.deref.result.now)) c.in_ok-reader.ensures c.in_ok-add_rows.ensures)
          c.loop-table.invariant.findings;
    }

pub returns : goal.returns
returns c = all_found _ _ _
    (tables_end (codes_of c.args.codes.now) (iter_rest (zip_first c.loop-table.table-iterator))
    (iter_rest (zip_second c.loop-table.table-iterator))
    (either_empty_from_Zip c.loop-table.table-iterator c.next.new.self c.next.result c.in-None.is
    c.next.ensures.steps)) c.loop-table.invariant.findings
