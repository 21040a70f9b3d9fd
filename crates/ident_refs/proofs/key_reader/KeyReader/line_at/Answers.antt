use Rattle.std.proofs.Common.{List, sym, ap}
use Rattle.table_layout.specs.Values.{role_view}
use Rattle.resolver.specs.Values.{line_of}
use Rattle.itf_reader.specs.Forms.{Vertex}
use Rattle.ident_refs.specs.ListValues.{line_value}
use Rattle.ident_refs.proofs.LineLaws.{line_got, no_form, no_stroke}
use Rattle.ident_refs.proofs.SameAnswers.{same_answer}
use Rattle.ident_refs.proofs.key_reader.KeyReader.line_at.Goals as goal

pub returns-in_default : goal.returns-in_default
returns-in_default c =
    sym (no_form (role_view c.args.self.now.table.now.role) c.args.self.now.table.now.lines.items
    c.deref.result.now c.args.strokes.now c.args.number
    c.deref.ensures.value c.in_default.ensures.lookup.3)

pub returns-in_default-get : goal.returns-in_default-get
returns-in_default-get c =
    sym (no_stroke (role_view c.args.self.now.table.now.role) c.args.self.now.table.now.lines.items
    c.args.strokes.now c.args.number c.in_default-get.ensures.lookup.3)

pub returns : goal.returns
returns c =
    same_answer c.line_value.result _ _
    (sym (line_got (role_view c.args.self.now.table.now.role) c.args.self.now.table.now.lines.items
    c.deref.result.now c.args.strokes.now c.args.number c.in-Some.form.now
    c.in-Some-get.stroke.now
    c.deref.ensures.value c.in-Some.ensures.lookup.3.0 c.in-Some.ensures.lookup.1
    c.in-Some-get.ensures.lookup.3.0 c.in-Some-get.ensures.lookup.1))
    (same_answer c.line_value.result _ _
    (ap (λ (vs : List Vertex). line_value (role_view c.args.self.now.table.now.role)
    (line_of c.in-Some.form.now) vs) c.as_slice.ensures) c.line_value.ensures)
