use Rattle.std.proofs.Common.{◌≡◌, ◌∙◌, ◌++◌, ◌<◌, List, ℕ, ap, sym, subst, length}
use Rattle.itf_lines.specs.declared.word.LineWord.{LineWord}
use Rattle.itf_reader.specs.TransferText.{line}
use Rattle.itf_reader.specs.VertexLists.{kind_of}
use Rattle.itf_reader.specs.Views.{slice_of, vertex_of}
use Rattle.itf_writer.specs.Canonical.{line_text, spelt, stroke_lines}
use Rattle.itf_writer.specs.Runs.{lines_text}
use Rattle.itf_writer.proofs.FeedSteps.{on_ok}
use Rattle.itf_writer.proofs.Flat.{stroke_more, stroke_ends, vertex_some}
use Rattle.itf_writer.proofs.adding.add_stroke.Goals as goal

pub add_line-requires : goal.add_line-requires
add_line-requires c =
    subst (λ (x : LineWord). 0 < length (spelt x)) (sym c.vertex_word.ensures)
    (vertex_some (kind_of c.in-Some.vertex.kind))

pub loop-vertex-preserved : goal.loop-vertex-preserved
loop-vertex-preserved c =
    let code = c.args.code in
    let text = c.loop-vertex.text in
    let rest = slice_of c.in-Some.rest in
    ap (λ (t : List ℕ). t ++ lines_text code (stroke_lines rest))
    (c.in_ok-add_line.ensures
    ∙ ap (λ (x : LineWord). text ++ line_text code (line x 0 c.in-Some.vertex.fields.now))
    c.vertex_word.ensures)
    ∙ (stroke_more code text (vertex_of c.in-Some.vertex) rest
    (slice_of c.loop-vertex.left) c.in-Some.ensures.some ∙ c.loop-vertex.invariant)

pub returns : goal.returns
returns c =
    on_ok c.add_line-2.result
    (λ e. e ∙ stroke_ends c.args.code c.loop-vertex.text
    (c.args.text.now ++ lines_text c.args.code (stroke_lines (slice_of c.args.vertices)))
    (slice_of c.loop-vertex.left) c.in_default.ensures.none c.loop-vertex.invariant)
    c.add_line-2.ensures
