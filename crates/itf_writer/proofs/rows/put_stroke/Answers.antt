use Rattle.std.proofs.Common.{◌∙◌, ◌++◌, ◌<◌, [], refl, ap, sym, subst, length}
use Rattle.itf_lines.specs.declared.word.LineWord.{LineWord}
use Rattle.itf_reader.specs.TransferText.{line}
use Rattle.itf_reader.specs.VertexLists.{kind_of}
use Rattle.itf_reader.specs.Views.{slice_of, vertex_of}
use Rattle.file_pages.proofs.Steps.{wrote_as, wrote_then, wrote_nothing}
use Rattle.itf_writer.specs.Canonical.{line_text, spelt, stroke_lines, vertex_line}
use Rattle.itf_writer.specs.Runs.{lines_text}
use Rattle.itf_writer.proofs.Flat.{stroke_more, stroke_ends, vertex_some}
use Rattle.itf_writer.proofs.rows.put_stroke.Goals as goal

pub loop-vertex-init : goal.loop-vertex-init
loop-vertex-init g c = ([], wrote_nothing, refl)

pub put_line-requires : goal.put_line-requires
put_line-requires g c =
    subst (λ (x : LineWord). 0 < length (spelt x)) (sym c.vertex_word.ensures)
    (vertex_some (kind_of c.in-Some.vertex.kind))

pub loop-vertex-preserved : goal.loop-vertex-preserved
loop-vertex-preserved g c =
    let w = c.loop-vertex.invariant in
    let code = c.args.code in
    let v = vertex_of c.in-Some.vertex in (
      w.0 ++ line_text code (vertex_line v),
      wrote_then w.1
          (wrote_as (ap (λ (x : LineWord). line_text code (line x 0 c.in-Some.vertex.fields.now))
          c.vertex_word.ensures) c.put_line.ensures),
      stroke_more code w.0 v (slice_of c.in-Some.rest)
          (slice_of c.loop-vertex.left) c.in-Some.ensures.some ∙ w.2,
    )

pub returns : goal.returns
returns g c =
    let w = c.loop-vertex.invariant in
    wrote_as (stroke_ends c.args.code w.0
    (lines_text c.args.code (stroke_lines (slice_of c.args.vertices)))
    (slice_of c.loop-vertex.left) c.in_default.ensures.none w.2)
    (wrote_then w.1 c.put_line-2.ensures)
