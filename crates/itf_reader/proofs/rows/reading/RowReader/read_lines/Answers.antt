use Rattle.std.proofs.Common.{◌≡◌, ◌+◌, ◌≤◌, ℕ, List, length, sym, ap, ◌∙◌, subst, arith}
use Rattle.std.specs.List.{All}
use Rattle.std.proofs.lemmas.List.{length-map}
use Rattle.table_layout.specs.Values.{column_view, lines_view, role_view}
use Rattle.itf_reader.specs.Findings.{findings_of}
use Rattle.itf_reader.specs.RowReadings.{vertices_view}
use Rattle.itf_reader.proofs.LeftOut.{all_findings, all_heights, all_vertices, mandatory_below}
use Rattle.itf_reader.proofs.rows.reading.RowReader.read_lines.Goals as goal

pub add_left_out-requires : goal.add_left_out-requires
add_left_out-requires c =
    let t = c.args.self.now.table.now in
    let few = c.args.self.now.few in
    let n : c.len.result ≡ length t.columns.items = c.len.ensures ∙ t.columns.ok.0 in
    let m = length-map t.columns.items column_view in
    subst (All (λ (k : ℕ). 1 + c.len.result + k ≤ 4294967295))
    (sym (c.deref-3.ensures.value ∙ c.args.self.now.numbers))
    (mandatory_below (1 + c.len.result) 4294967295 0 (lines_view t.lines.items)
    (omega (arith, few, n, m)))

pub returns-clause-vertices : goal.returns-clause-vertices
returns-clause-vertices c =
    all_vertices c.deref.result.now c.args.self.now.table.now.lines.items c.deref-2.result.now
    c.args.row.now.strokes.given.items c.args.row.now.strokes.left_out
    (vertices_view c.args.values.now.vertices.items)
    (vertices_view c.read_given.new.values.vertices.items) c.deref.ensures.value
    c.deref-2.ensures.value c.in_ok-read_given.ensures.vertices

pub returns-clause-heights : goal.returns-clause-heights
returns-clause-heights c =
    all_heights c.deref.result.now c.args.self.now.table.now.lines.items c.deref-2.result.now
    c.args.row.now.strokes.given.items c.args.row.now.strokes.left_out
    c.args.values.now.heights.items c.read_given.new.values.heights.items c.deref.ensures.value
    c.deref-2.ensures.value c.in_ok-read_given.ensures.heights

pub returns-clause-findings : goal.returns-clause-findings
returns-clause-findings c =
    let t = c.args.self.now.table.now in
    all_findings (role_view t.role) c.args.row.now.line
    (1 + length t.columns.items) c.args.row.now.strokes.left_out
    (1 + c.len.result) c.deref.result.now t.lines.items c.deref-2.result.now
    c.args.row.now.strokes.given.items c.deref-3.result.now
    (findings_of c.args.findings.now.items) (findings_of c.read_given.new.findings.items)
    (findings_of c.add_left_out.new.findings.items) c.deref.ensures.value
    c.deref-2.ensures.value
    (c.deref-3.ensures.value ∙ c.args.self.now.numbers)
    (ap (λ (n : ℕ). 1 + n) (c.len.ensures ∙ t.columns.ok.0)) c.in_ok-read_given.ensures.findings
    c.in_ok-add_left_out.ensures
