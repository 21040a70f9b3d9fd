use Rattle.std.proofs.lemmas.Slice.Zip.{either_empty_from_Zip}
use Rattle.std.specs.Iterator.Adapters.{zip_first, zip_second}
use Rattle.std.specs.Slice.Iter.{iter_rest}
use Rattle.table_layout.specs.Values.{role_view}
use Rattle.itf_reader.proofs.Zipped.{all_done, findings_end, vertices_end, heights_end}
use Rattle.itf_reader.proofs.rows.lines.read_given.Goals as goal

pub returns-clause-vertices : goal.returns-clause-vertices
returns-clause-vertices c =
    let none = either_empty_from_Zip c.loop-form.form-iterator c.next.new.self c.next.result
    c.in-None.is c.next.ensures.steps in
    all_done _ _ _
    (vertices_end (iter_rest (zip_first c.loop-form.form-iterator))
    (iter_rest (zip_second c.loop-form.form-iterator)) none) c.loop-form.invariant.vertices

pub returns-clause-heights : goal.returns-clause-heights
returns-clause-heights c =
    let none = either_empty_from_Zip c.loop-form.form-iterator c.next.new.self c.next.result
    c.in-None.is c.next.ensures.steps in
    all_done _ _ _
    (heights_end (iter_rest (zip_first c.loop-form.form-iterator))
    (iter_rest (zip_second c.loop-form.form-iterator)) none) c.loop-form.invariant.heights

pub returns-clause-findings : goal.returns-clause-findings
returns-clause-findings c =
    let none = either_empty_from_Zip c.loop-form.form-iterator c.next.new.self c.next.result
    c.in-None.is c.next.ensures.steps in
    all_done _ _ _
    (findings_end (role_view c.args.role) c.args.line c.loop-form.column
    (iter_rest (zip_first c.loop-form.form-iterator))
    (iter_rest (zip_second c.loop-form.form-iterator)) none) c.loop-form.invariant.findings
