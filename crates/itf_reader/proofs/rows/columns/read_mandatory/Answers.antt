use Rattle.std.proofs.Common.{Some, ap, ◌∙◌}
use Rattle.ili_grammar.specs.Values.{codes_of}
use Rattle.resolver.specs.Values.{form_of}
use Rattle.field_values.specs.Fields.{field_fault}
use Rattle.field_values.specs.Readings.{value_of}
use Rattle.field_values.specs.Views.{value_view}
use Rattle.itf_reader.specs.declared.findings.Code.{Code}
use Rattle.itf_reader.proofs.VertexLaws.{code_ok, code_err}
use Rattle.itf_reader.proofs.rows.columns.read_mandatory.Goals as goal

pub returns-in-Ok-clause-code : goal.returns-in-Ok-clause-code
returns-in-Ok-clause-code c =
    let words = c.args.words.now in
    code_ok (field_fault (form_of c.args.form.now) (codes_of c.args.codes.now) words)
    (value_of (form_of c.args.form.now) words) (value_view words c.in-Ok.value) c.in-Ok.ensures

pub returns-in-Err-clause-code : goal.returns-in-Err-clause-code
returns-in-Err-clause-code c =
    let words = c.args.words.now in
    ap (λ (k : Code). Some k) c.code_of.ensures
    ∙ code_err (field_fault (form_of c.args.form.now) (codes_of c.args.codes.now) words)
    (value_of (form_of c.args.form.now) words) c.in-Err.fault c.in-Err.ensures
