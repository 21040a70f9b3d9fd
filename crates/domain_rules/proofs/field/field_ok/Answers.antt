use Rattle.std.proofs.Common.{Some, None, ap, ◌∙◌}
use Rattle.ili_grammar.specs.Values.{codes_of}
use Rattle.resolver.specs.Values.{form_of}
use Rattle.field_values.specs.Fields.{field_fault}
use Rattle.field_values.specs.Readings.{value_of}
use Rattle.field_values.specs.Views.{value_view}
use Rattle.itf_reader.specs.declared.findings.Code.{Code}
use Rattle.domain_rules.proofs.FieldCodes.{none_found, one_found, meets_by}
use Rattle.domain_rules.proofs.field.field_ok.Goals as goal

pub returns-in-Ok-clause-code : goal.returns-in-Ok-clause-code
returns-in-Ok-clause-code c =
    let words = c.args.words.now in
    none_found (field_fault (form_of c.args.form.now) (codes_of c.args.codes.now) words)
    (value_of (form_of c.args.form.now) words)
    (value_view words c.in-Ok.field-0) c.in-Ok.ensures

pub returns-in-Ok-clause-meets : goal.returns-in-Ok-clause-meets
returns-in-Ok-clause-meets c =
    meets_by (form_of c.args.form.now) (codes_of c.args.codes.now) c.args.words.now None
    (returns-in-Ok-clause-code c)

pub returns-in-Err-clause-code : goal.returns-in-Err-clause-code
returns-in-Err-clause-code c =
    let words = c.args.words.now in
    ap (λ (k : Code). Some k) c.code_of.ensures
    ∙ one_found (field_fault (form_of c.args.form.now) (codes_of c.args.codes.now) words)
    (value_of (form_of c.args.form.now) words) c.in-Err.fault c.in-Err.ensures

pub returns-in-Err-clause-meets : goal.returns-in-Err-clause-meets
returns-in-Err-clause-meets c =
    meets_by (form_of c.args.form.now) (codes_of c.args.codes.now) c.args.words.now
    (Some c.code_of.result) (returns-in-Err-clause-code c)
