use Rattle.area_drawings.proofs.LineForms.{one_form, narrow_form}
use Rattle.area_drawings.proofs.forms.line_form.Goals as goal

pub returns-clause-lines : goal.returns-clause-lines
returns-clause-lines c =
    one_form c.lines_of.result.now c.form-item.result _ c.requires.line c.lines_of.ensures
    c.requires.lines c.form-item.is

pub returns-clause-narrow : goal.returns-clause-narrow
returns-clause-narrow c =
    narrow_form c.lines_of.result.now c.form-item.result _ c.requires.line c.lines_of.ensures
    c.requires.lines c.form-item.is c.requires.narrow
