use Rattle.std.proofs.Common.{rules, refl, FitsSigned, to_z-of_z}
use Rattle.std.specs.Int.{w64}
use Rattle.resolver.specs.Values.{line_of}
use Rattle.field_values.specs.Views.{numbers_of}
use Rattle.itf_reader.specs.Views.{vertex_of}
use Rattle.ident_refs.proofs.SoundVertices.{corner_read, never_at}
use Rattle.ident_refs.proofs.values.key_vertex_of.Goals as goal

pub returns-in-Ok : goal.returns-in-Ok
returns-in-Ok c =
    let fx : FitsSigned w64 c.in-Ok.value.at.x = search rules in
    let fy : FitsSigned w64 c.in-Ok.value.at.y = search rules in
    rw (to_z-of_z fx, to_z-of_z fy)
    (corner_read (line_of c.args.form.now) (vertex_of c.args.vertex) c.args.vertex.fields.now
    (numbers_of c.in-Ok.value) refl c.in-Ok.ensures.read)

pub returns-in-Err : goal.returns-in-Err
returns-in-Err c =
    absurd (never_at (line_of c.args.form.now) c.args.vertex.fields.now c.args.vertex.fields.now
    c.in-Err.field-0 c.requires refl c.in-Err.ensures.read)
