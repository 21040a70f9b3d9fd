use Rattle.std.proofs.Common.{sym, refl, ◌∙◌, List, ℤ}
use Rattle.std.specs.Option.{option_to_list}
use Rattle.resolver.specs.Values.{line_of}
use Rattle.field_values.specs.Places.{Place, place_view}
use Rattle.field_values.specs.Views.{numbers_of}
use Rattle.itf_reader.specs.Views.{vertex_of}
use Rattle.itf_reader.proofs.VertexLaws.{ok_at, barred_at, err_at, err_same}
use Rattle.itf_reader.proofs.rows.vertices.value_of.Goals as goal

pub returns-then-is_barred : goal.returns-then-is_barred
returns-then-is_barred c =
    barred_at (line_of c.args.form.now) (vertex_of c.args.vertex) c.args.vertex.fields.now
    (numbers_of c.in-Ok.value) refl c.in-Ok.ensures.read (sym c.if-is_barred.ensures)

pub returns-else-is_barred : goal.returns-else-is_barred
returns-else-is_barred c =
    ok_at (line_of c.args.form.now) (vertex_of c.args.vertex) c.args.vertex.fields.now
    c.in-Ok.value.at.x c.in-Ok.value.at.y (option_to_list c.in-Ok.value.height)
    (place_view c.in-Ok.value.at)
    refl c.in-Ok.ensures.read c.in-Ok.ensures.place (sym c.if-is_barred.ensures)

pub returns-in-Err : goal.returns-in-Err
returns-in-Err c =
    err_same (Place × List ℤ) c.code_of.result _ c.code_of.ensures
    ∙ err_at (line_of c.args.form.now)
    (vertex_of c.args.vertex) c.args.vertex.fields.now c.in-Err.fault refl c.in-Err.ensures.read
