use Rattle.std.proofs.Common.{List, ◌++◌, ℤ, ap, sym, ◌∙◌, append-nil}
use Rattle.std.specs.Option.{option_to_list}
use Rattle.resolver.specs.Values.{line_of}
use Rattle.field_values.specs.Places.{place_view}
use Rattle.itf_reader.specs.Findings.{Finding, findings_of}
use Rattle.itf_reader.specs.RowReadings.{vertices_view}
use Rattle.itf_reader.specs.Views.{vertex_of}
use Rattle.itf_reader.specs.StrokeFindings.{Seen}
use Rattle.itf_reader.proofs.VertexLaws.{sound, unsound}
use Rattle.itf_reader.proofs.rows.vertices.add_vertex.Goals as goal

pub returns-in_ok-add_sound-in-Ok-clause-findings : goal.returns-in_ok-add_sound-in-Ok-clause-findings
returns-in_ok-add_sound-in-Ok-clause-findings c =
    let s = sound (line_of c.args.form.now) (vertex_of c.args.vertex)
    (place_view c.in-Ok.value.at, option_to_list c.in-Ok.value.height) c.args.column
    c.in-Ok.ensures in
    let fs = findings_of c.args.findings.now.items in
    sym (append-nil fs) ∙ ap (λ (l : List Finding). fs ++ l) s.3

pub returns-in_ok-report-in-Err-clause-clean : goal.returns-in_ok-report-in-Err-clause-clean
returns-in_ok-report-in-Err-clause-clean c =
    (unsound (line_of c.args.form.now)
    (vertex_of c.args.vertex) c.in-Err.code c.args.column c.in-Err.ensures).0

pub returns-in_ok-report-in-Err-clause-vertices : goal.returns-in_ok-report-in-Err-clause-vertices
returns-in_ok-report-in-Err-clause-vertices c =
    let s = unsound (line_of c.args.form.now)
    (vertex_of c.args.vertex) c.in-Err.code c.args.column c.in-Err.ensures in
    let vs = vertices_view c.args.values.now.vertices.items in
    sym (append-nil vs) ∙ ap (λ (l : List Seen). vs ++ l) s.1

pub returns-in_ok-report-in-Err-clause-heights : goal.returns-in_ok-report-in-Err-clause-heights
returns-in_ok-report-in-Err-clause-heights c =
    let s = unsound (line_of c.args.form.now)
    (vertex_of c.args.vertex) c.in-Err.code c.args.column c.in-Err.ensures in
    let hs = c.args.values.now.heights.items in
    sym (append-nil hs) ∙ ap (λ (l : List ℤ). hs ++ l) s.2

pub returns-in_ok-report-in-Err-clause-findings : goal.returns-in_ok-report-in-Err-clause-findings
returns-in_ok-report-in-Err-clause-findings c =
    let s = unsound (line_of c.args.form.now)
    (vertex_of c.args.vertex) c.in-Err.code c.args.column c.in-Err.ensures in
    c.in_ok-report-in-Err.ensures
    ∙ ap (λ (l : List Finding). findings_of c.args.findings.now.items ++ l) s.3
