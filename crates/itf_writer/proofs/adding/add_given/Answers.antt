use Rattle.std.proofs.Common.{◌≡◌, ◌∙◌, ◌++◌, List, ℕ, ap, sym, take, get_or, append_assoc}
use Rattle.std.proofs.lemmas.List.{take_all}
use Rattle.std.specs.List.{flat_map}
use Rattle.itf_reader.specs.declared.transfer.Stroke.{Stroke}
use Rattle.itf_reader.specs.Forms.{Vertex}
use Rattle.itf_reader.specs.Views.{stroke_of}
use Rattle.itf_writer.specs.Canonical.{stroke_lines}
use Rattle.itf_writer.specs.Runs.{lines_text}
use Rattle.itf_writer.proofs.FeedSteps.{flat_next}
use Rattle.itf_writer.proofs.Flat.{texts_of}
use Rattle.itf_writer.proofs.adding.add_given.Goals as goal

pub loop-stroke-preserved : goal.loop-stroke-preserved
loop-stroke-preserved c =
    let code = c.args.code in
    let i = c.loop-stroke.stroke-index in
    let d = c.stroke-item.result in
    let before = flat_map (λ s. lines_text code (stroke_lines (stroke_of s)))
    (take i c.args.strokes.now) in
    let next = lines_text code (stroke_lines (stroke_of (get_or c.args.strokes.now i d))) in
    let own = ap (λ (vs : List Vertex). lines_text code (stroke_lines vs)) c.as_slice.ensures
    ∙ ap (λ (s : Stroke). lines_text code (stroke_lines (stroke_of s))) c.stroke-item.is in
    c.in_ok-add_stroke.ensures
    ∙ (ap (λ (t : List ℕ). c.loop-stroke.text ++ t) own
    ∙ (ap (λ (t : List ℕ). t ++ next) c.loop-stroke.invariant
    ∙ (append_assoc c.args.text.now before next
    ∙ ap (λ (t : List ℕ). c.args.text.now ++ t)
    (sym (flat_next (λ s. lines_text code (stroke_lines (stroke_of s))) c.args.strokes.now i d
    c.loop-stroke-test.true)))))

pub returns : goal.returns
returns c =
    let code = c.args.code in
    c.loop-stroke.invariant
    ∙ ap (λ (t : List ℕ). c.args.text.now ++ t)
    (ap (flat_map (λ s. lines_text code (stroke_lines (stroke_of s))))
    (take_all c.loop-stroke.stroke-index c.args.strokes.now c.loop-stroke-test.false)
    ∙ texts_of code stroke_lines stroke_of c.args.strokes.now)
