use Rattle.std.proofs.Common.{Some, ap, ◌∙◌}
use Rattle.ili_grammar.specs.Values.{codes_of}
use Rattle.resolver.specs.Values.{form_of}
use Rattle.field_values.specs.Fields.{field_fault}
use Rattle.field_values.specs.Readings.{value_of}
use Rattle.field_values.specs.Views.{value_view}
use Rattle.ident_refs.specs.ListValues.{Value}
use Rattle.ident_refs.proofs.SoundVertices.{value_ok, value_err}
use Rattle.ident_refs.proofs.values.form_value.Goals as goal

pub returns-in-Ok : goal.returns-in-Ok
returns-in-Ok c =
    let words = c.args.words.now in
    ap (λ (v : Value). Some v) c.value_of.ensures
    ∙ value_ok (field_fault (form_of c.args.form.now) (codes_of c.args.codes.now) words)
    (value_of (form_of c.args.form.now) words) (value_view words c.in-Ok.value) c.in-Ok.ensures

pub returns-in-Err : goal.returns-in-Err
returns-in-Err c =
    let words = c.args.words.now in
    value_err (field_fault (form_of c.args.form.now) (codes_of c.args.codes.now) words)
    (value_of (form_of c.args.form.now) words) c.in-Err.field-0 c.in-Err.ensures
