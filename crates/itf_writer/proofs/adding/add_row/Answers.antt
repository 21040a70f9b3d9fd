use Rattle.std.proofs.Common.{◌≡◌, ◌∙◌, ◌++◌, List, ℕ, ap, sym, append_assoc}
use Rattle.std.proofs.lemmas.List.Concat.{flat_map-cons}
use Rattle.std.specs.List.{flat_map}
use Rattle.itf_lines.specs.declared.word.LineWord.TheVariants.{Obje}
use Rattle.itf_reader.specs.TransferText.{line}
use Rattle.itf_reader.specs.Views.{all_strokes}
use Rattle.itf_writer.specs.Canonical.{line_text, stroke_lines}
use Rattle.itf_writer.specs.Runs.{lines_text}
use Rattle.itf_writer.proofs.FeedSteps.{on_ok}
use Rattle.itf_writer.proofs.adding.add_row.Goals as goal

pub returns : goal.returns
returns c =
    let code = c.args.code in
    let text = c.args.text.now in
    let row = c.args.row.now in
    let strokes = flat_map stroke_lines (all_strokes row.strokes) in
    on_ok c.add_strokes.result
    (λ e.
    e
    ∙ (ap (λ (t : List ℕ). t ++ lines_text code strokes)
    (c.in_ok-add_line.ensures
    ∙ ap (λ (fs : List (List ℕ)). text ++ line_text code (line Obje 0 fs))
    c.deref.ensures.value)
    ∙ (append_assoc text (line_text code (line Obje 0 row.fields.items)) (lines_text code strokes)
    ∙ ap (λ (t : List ℕ). text ++ t)
    (sym (flat_map-cons (line_text code) (line Obje 0 row.fields.items) strokes)))))
    c.add_strokes.ensures
