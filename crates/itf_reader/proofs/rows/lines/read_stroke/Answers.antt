use Rattle.std.proofs.Common.{sym, ◌∙◌}
use Rattle.resolver.specs.Values.{line_of}
use Rattle.table_layout.specs.Values.{role_view}
use Rattle.itf_reader.specs.Findings.{findings_of}
use Rattle.itf_reader.specs.RowReadings.{sound_vertices, vertices_view}
use Rattle.itf_reader.specs.Views.{slice_of}
use Rattle.itf_reader.proofs.VertexLaws.{own_vertices, stroke_clean, found_clean}
use Rattle.itf_reader.proofs.rows.lines.read_stroke.Goals as goal

pub returns-clause-sound : goal.returns-clause-sound
returns-clause-sound c =
    let l = line_of c.args.form.now in
    let vs = slice_of c.args.vertices in
    let own = own_vertices c.args.values.now.vertices.items c.add_vertices.new.values.vertices.items
    c.deref.result.now c.from-own.result.now (sound_vertices l vs) c.len-start.result
    (c.len-start.ensures ∙ c.args.values.now.vertices.ok.0) c.in_ok-clean.ensures.vertices
    c.deref.ensures.value c.from-own.ensures in
    c.in_ok-sound.ensures.whole
    ∙ stroke_clean (role_view c.args.role) l vs (vertices_view c.from-own.result.now) own
    (sym c.in_ok-clean.ensures.clean ∙ c.if-not-clean.false)

pub returns-clause-findings : goal.returns-clause-findings
returns-clause-findings c =
    let l = line_of c.args.form.now in
    let vs = slice_of c.args.vertices in
    let own = own_vertices c.args.values.now.vertices.items c.add_vertices.new.values.vertices.items
    c.deref.result.now c.from-own.result.now (sound_vertices l vs) c.len-start.result
    (c.len-start.ensures ∙ c.args.values.now.vertices.ok.0) c.in_ok-clean.ensures.vertices
    c.deref.ensures.value c.from-own.ensures in
    found_clean (role_view c.args.role) l c.args.column vs (vertices_view c.from-own.result.now)
    (findings_of c.args.findings.now.items) (findings_of c.add_vertices.new.findings.items)
    (findings_of c.judge.new.findings.items) own
    (sym c.in_ok-clean.ensures.clean ∙ c.if-not-clean.false) c.in_ok-clean.ensures.findings
    c.in_ok-sound.ensures.findings
